use Rattle.std.proofs.Common.{◌≡◌, map, take}
use Rattle.cyclo_poly.proofs.lists.all_equal.Given as goal

abbrev pub invariant-loop-i : goal.invariant-loop-i
invariant-loop-i g l = map g.R.Ring.value (take l.i l.f) ≡ map g.R.Ring.value (take l.i l.g)
