use Rattle.std.proofs.Common.{◌*◌, get_or}
use Rattle.two_power.proofs.Loops.{Changed}
use Rattle.two_power.proofs.cyclic.multiply.Given as goal

abbrev pub invariant-loop-i : goal.invariant-loop-i
invariant-loop-i l = Changed l.q (2 * l.q) l.i (λ k. get_or l.factors k 0 * get_or l.initial.row k 0) l.initial.row l.row
