use Rattle.packed_clear.proofs.RunSteps.{IsUnderWay}
use Rattle.packed_clear.proofs.running.run_clear.Given as goal

abbrev pub invariant-loop-step : goal.invariant-loop-step
invariant-loop-step l = IsUnderWay l.slots.field l.slots.cube l.program l.inputs l.step-index l.values.items l.left
