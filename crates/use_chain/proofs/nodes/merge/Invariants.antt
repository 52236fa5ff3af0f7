use Rattle.std.proofs.Common.{ℕ, ◌+◌, ◌-◌, List, length}
use Rattle.use_chain.specs.Rings.{lists}
use Rattle.use_chain.proofs.Merging.{IsMerging}
use Rattle.use_chain.proofs.nodes.merge.Given as goal

abbrev pub invariant-loop-node : goal.invariant-loop-node
invariant-loop-node l =
    (uses : List (List ℕ)) × IsMerging l.places l.from l.into (lists l.places l.initial.nodes) uses l.nodes l.at l.node

abbrev pub decreases-loop-node : goal.decreases-loop-node
decreases-loop-node l = (length l.nodes - l.at) + (length l.nodes - l.node)
