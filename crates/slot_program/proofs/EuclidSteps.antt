-- Euclid's algorithm keeps the common divisors, and ends at the greatest.
use Rattle.std.proofs.Common.{◌≡◌, ◌+◌, ◌*◌, ◌/◌, ◌%◌, ◌<◌, ◌↔◌, ℕ, eqb, sym, ap, subst, arith}
use Rattle.algebra.specs.Divisor.{Dvd, gcd, is_unit}
use Rattle.algebra.proofs.Divisors.{Dvd_antisymm, Dvd_multiple, Dvd_sum, Dvd_rest, Dvd_refl}
use Rattle.algebra.proofs.Units.{gcd_divides_left, gcd_divides_right, gcd_greatest}

parts : (a b : ℕ) → 0 < b → (a / b) * b + a % b ≡ a
parts a b positive = omega arith

pub euclid_step : (d a b : ℕ) → 0 < b → (Dvd d b × Dvd d (a % b)) ↔ (Dvd d a × Dvd d b)
euclid_step d a b positive = (
  λ (h, k). (subst (λ z. Dvd d z) (parts a b positive) (Dvd_sum d ((a / b) * b) (a % b) (Dvd_multiple d b (a / b) h) k), h),
  λ (h, k). (k, Dvd_rest d ((a / b) * b) (a % b) (Dvd_multiple d b (a / b) k) (subst (λ z. Dvd d z) (sym (parts a b positive)) h)),
)

pub euclid_more : (k m a b : ℕ) → 0 < b → ((d : ℕ) → (Dvd d a × Dvd d b) ↔ (Dvd d k × Dvd d m))
    → (d : ℕ) → (Dvd d b × Dvd d (a % b)) ↔ (Dvd d k × Dvd d m)
euclid_more k m a b positive same d =
    let step = euclid_step d a b positive in
    (λ h. (same d).0 (step.0 h), λ h. step.1 ((same d).1 h))

pub euclid_end : (k m a : ℕ) → 0 < k → 0 < m → ((d : ℕ) → (Dvd d a × Dvd d 0) ↔ (Dvd d k × Dvd d m)) → eqb a 1 ≡ is_unit m k
euclid_end k m a k_in m_in same =
    let nothing : Dvd a 0 = (0, omega arith) in
    let both = (same a).0 (Dvd_refl a, nothing) in
    let greatest = Dvd_antisymm a (gcd k m) (gcd_greatest k m a k_in m_in both.0 both.1) ((same (gcd k m)).1 (gcd_divides_left k m m_in, gcd_divides_right k m m_in)).0 in
    ap (λ g. eqb g 1) greatest
