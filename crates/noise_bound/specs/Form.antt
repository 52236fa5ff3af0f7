-- The bound of a number.
use Rattle.std.specs.Prelude.{ℕ, ◌^◌, ◌<◌, ◌≤◌}
use Rattle.std.proofs.Math.Decide.{dec_lt, dec_le}
use Rattle.std.proofs.Math.Nat.{lt_irrefl}
use Rattle.std.proofs.lemmas.Nat.{pow_pos}
use Rattle.noise_bound.specs.Rounding.{mantissa, exponent}
use Rattle.noise_bound.specs.declared.rounding.Bound.{Bound}

-- the bound with this mantissa and exponent, where they are one: a mantissa that is not full has no exponent
unfoldable pub form_of : (man exp : ℕ) → Dec (man < 2 ^ 32) → Dec (2 ^ 31 ≤ man) → Bound
form_of man exp (yes fits) (yes full) = record { man = man; exp = exp; fits = fits; normal = λ some. full }
form_of man exp (yes fits) (no less) = record { man = man; exp = 0; fits = fits; normal = λ some. absurd (lt_irrefl 0 some) }
form_of man exp (no over) full = record { man = 0; exp = 0; fits = pow_pos 32; normal = λ some. absurd (lt_irrefl 0 some) }

-- the greatest bound that is at most x; of a bound's own number, that bound
unfoldable pub bound_of : ℕ → Bound
bound_of x = form_of (mantissa x) (exponent x) (dec_lt (mantissa x) (2 ^ 32)) (dec_le (2 ^ 31) (mantissa x))
