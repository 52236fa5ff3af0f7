use Rattle.std.proofs.Common.{get_or}
use Rattle.two_power.proofs.Loops.{Changed}
use Rattle.two_power.proofs.cyclic.reduce.Given as goal

abbrev pub invariant-loop-i : goal.invariant-loop-i
invariant-loop-i l = Changed l.q (l.q) l.i (λ k. get_or l.initial.row k 0) l.initial.row l.row
