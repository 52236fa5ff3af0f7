-- When a coefficient on the way to Phi_m is too large for the words that hold it.
use Rattle.std.specs.Prelude.{ℕ, zero, suc, ◌^◌, ◌<◌, Bool, false, cond, ◌&&◌, ◌||◌, nat_le, List, [], ◌∷◌, ℤ, nat_abs}
use Rattle.algebra.specs.Ring.{whole_numbers}
use Rattle.algebra.specs.Divisor.{is_divisor}
use Rattle.algebra.specs.Poly.{coeff, monomial, quotient_by}
use Rattle.cyclotomic.specs.Cyclotomic.{power_less_one, phi, fold}

-- the test holds of some number below n
abbrev pub any_below : ℕ → (ℕ → Bool) → Bool
any_below zero p = false
any_below (suc n) p = any_below n p || p n

-- some coefficient has an absolute value of 2^31 or more
unfoldable pub is_large : List ℤ → Bool
is_large [] = false
is_large (c ∷ f) = nat_le (2 ^ 31) (nat_abs c) || is_large f

-- each coefficient is smaller
abbrev pub AllSmall : List ℤ → Type 0
AllSmall f = (i : ℕ) → nat_abs (coeff whole_numbers f i) < 2 ^ 31

-- what is left of X^m - 1 after its divisions by Phi_d, one after another, for the divisors d of m up to n
unfoldable pub cofactor : ℕ → ℕ → List ℤ
cofactor m zero = power_less_one m
cofactor m (suc n) = cond (is_divisor (suc n) m) (quotient_by whole_numbers (phi (suc n)) (cofactor m n)) (cofactor m n)

-- for a divisor d of m, Phi_d or what the division by it leaves is too large
unfoldable pub is_large_at : ℕ → ℕ → Bool
is_large_at m d = is_divisor d m && (is_large (phi d) || is_large (cofactor m d))

abbrev pub has_large_factor : ℕ → Bool
has_large_factor m = any_below m (λ i. is_large_at m (suc i))

-- for some t < m the remainder of X^t by Phi_m is too large
abbrev pub has_large_power : ℕ → Bool
has_large_power m = any_below m (λ t. is_large (fold m (monomial whole_numbers t)))

unfoldable pub is_tall : ℕ → Bool
is_tall m = has_large_factor m || has_large_power m
