use Rattle.two_power.proofs.Passed.{PassedUp}
use Rattle.two_power.proofs.passes.pass_up.Given as goal

abbrev pub invariant-loop-i : goal.invariant-loop-i
invariant-loop-i l = PassedUp l.q l.w l.i l.initial.lo l.initial.hi l.lo l.hi
