use Rattle.std.proofs.Common.{◌≡◌, map, take, true}
use Rattle.algebra.specs.Poly.{all_held}
use Rattle.cyclo_poly.proofs.lists.all_hold.Given as goal

abbrev pub invariant-loop-i : goal.invariant-loop-i
invariant-loop-i g l = all_held (g.R.Ring.held l.ring) (map g.R.Ring.value (take l.i l.f)) ≡ true
