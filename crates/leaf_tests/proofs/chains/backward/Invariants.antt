use Rattle.std.proofs.Common.{◌≡◌, ℕ, ◌-◌, List, ◌++◌, length, reverse}
use Rattle.std.specs.Prelude.{slice_get}
use Rattle.use_chain.specs.Uses.{list_of}
use Rattle.leaf_tests.proofs.chains.backward.Given as goal

abbrev pub invariant-loop-at : goal.invariant-loop-at
invariant-loop-at l = (front : List ℕ) × (list_of l.chain l.value ≡ front ++ reverse l.nodes.items) × (l.at ≡ slice_get front (length front - 1))

abbrev pub decreases-loop-at : goal.decreases-loop-at
decreases-loop-at l = length (list_of l.chain l.value) - length l.nodes.items
