use Rattle.std.proofs.Common.{◌≡◌, length}
use Rattle.leaf_tests.proofs.chains.after.Given as goal

abbrev pub invariant-loop-change : goal.invariant-loop-change
invariant-loop-change l = length l.chain ≡ length l.steps
