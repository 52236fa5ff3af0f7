use Rattle.two_power.proofs.Passed.{PassedDown}
use Rattle.two_power.proofs.passes.pass_down.Given as goal

abbrev pub invariant-loop-i : goal.invariant-loop-i
invariant-loop-i l = PassedDown l.q l.w l.i l.initial.lo l.initial.hi l.lo l.hi
