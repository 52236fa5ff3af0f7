use Rattle.std.proofs.Common.{◌≡◌, suc, false}
use Rattle.cyclo_poly.specs.Tall.{AllSmall, any_below, is_large_at, cofactor}
use Rattle.cyclo_poly.proofs.factors.has_large_factor.Given as goal

abbrev pub invariant-loop-i : goal.invariant-loop-i
invariant-loop-i l = (l.left.items ≡ cofactor l.m l.i) × (AllSmall l.left.items) × (any_below l.i (λ i. is_large_at l.m (suc i)) ≡ false)
