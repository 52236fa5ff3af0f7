use Rattle.std.proofs.Common.{◌≡◌, ℕ, ◌<◌, vec_len, get_or, pos}
use Rattle.algebra.specs.Ring.{whole_numbers}
use Rattle.algebra.specs.Poly.{coeff, at_power}
use Rattle.cyclo_poly.proofs.members.spread_out.Given as goal

abbrev pub invariant-loop-i : goal.invariant-loop-i
invariant-loop-i l = (vec_len l.g ≡ l.i) × ((j : ℕ) → j < l.i → get_or l.g.items j (pos 0) ≡ coeff whole_numbers (at_power whole_numbers l.p l.f) j)
