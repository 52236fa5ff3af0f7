use Rattle.std.proofs.Common.{◌≡◌, ℕ, ◌-◌, List, ◌++◌, length}
use Rattle.std.specs.Prelude.{slice_get}
use Rattle.use_chain.specs.Uses.{list_of}
use Rattle.leaf_tests.proofs.chains.forward.Given as goal

abbrev pub invariant-loop-at : goal.invariant-loop-at
invariant-loop-at l = (rest : List ℕ) × (list_of l.chain l.value ≡ l.nodes.items ++ rest) × (l.at ≡ slice_get rest 0)

abbrev pub decreases-loop-at : goal.decreases-loop-at
decreases-loop-at l = length (list_of l.chain l.value) - length l.nodes.items
