-- Prime numbers, by what Euclid's lemma says of them.
use Rattle.std.specs.Prelude.{ℕ, ◌*◌, ◌<◌, ◌⊎◌}
use Rattle.algebra.specs.Divisor.{Dvd}

-- a divisor of p * k is a multiple of p, or divides k
pub record IsPrime (p : ℕ) : Type 0 where
  pub above : 1 < p
  pub euclid : (e k : ℕ) → Dvd e (p * k) → (Dvd p e) ⊎ (Dvd e k)
