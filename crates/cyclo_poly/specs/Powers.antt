-- Rows in which the remainders of the powers of X by Phi_m stand, each one place before the last.
use Rattle.std.specs.Prelude.{◌≡◌, ℕ, ◌+◌, ◌<◌, ◌≤◌, List, ℤ, ◌+ℤ◌, ◌*ℤ◌, neg_ℤ, nat_abs}
use Rattle.algebra.specs.Ring.{whole_numbers}
use Rattle.algebra.specs.Range.{total}
use Rattle.algebra.specs.Poly.{coeff}
use Rattle.cyclotomic.specs.Norm.{greatest}

-- the new row is the old one, less y times g at n places from a place on
pub record IsLowered (g : List ℤ) (y : ℤ) (from n : ℕ) (old new : List ℤ) : Type 0 where
  pub within : (i : ℕ) → i < n → coeff whole_numbers new (from + i) ≡ coeff whole_numbers old (from + i) +ℤ neg_ℤ y *ℤ coeff whole_numbers g i
  pub before : (i : ℕ) → i < from → coeff whole_numbers new i ≡ coeff whole_numbers old i
  pub after : (i : ℕ) → from + n ≤ i → coeff whole_numbers new i ≡ coeff whole_numbers old i

-- the greatest absolute value at n places from a place on
abbrev pub height_from : List ℤ → ℕ → ℕ → ℕ
height_from row from n = total greatest n (λ i. nat_abs (coeff whole_numbers row (from + i)))
