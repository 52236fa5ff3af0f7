use Rattle.std.proofs.Common.{ℕ, ◌<◌}
use Rattle.use_chain.specs.Uses.{operands_of, NamesEarlier}
use Rattle.leaf_tests.proofs.chains.name_earlier.Given as goal

abbrev pub invariant-loop-step : goal.invariant-loop-step
invariant-loop-step l = (k : ℕ) → k < l.step → NamesEarlier k (operands_of l.steps k)
