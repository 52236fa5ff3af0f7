use Rattle.std.proofs.Common.{◌≡◌, ℕ, ◌≤◌, vec_len}
use Rattle.algebra.specs.Ring.{whole_numbers}
use Rattle.algebra.specs.Poly.{coeff, quotient_by}
use Rattle.cyclo_poly.specs.Tall.{AllSmall}
use Rattle.cyclo_poly.proofs.members.small_quotient.Given as goal

abbrev pub invariant-loop-t : goal.invariant-loop-t
invariant-loop-t l = (vec_len l.c ≡ l.count) × (AllSmall l.c.items) × ((s : ℕ) → l.t ≤ s → coeff whole_numbers l.c.items s ≡ coeff whole_numbers (quotient_by whole_numbers l.g l.a) s)
