-- Divisors: the test against the relation, and its laws.
use Rattle.std.specs.Prelude.{◌≡◌, ℕ, zero, suc, ◌+◌, ◌-◌, ◌*◌, ◌/◌, ◌%◌, ◌<◌, ◌≤◌, ◌⊎◌, true, false}
use Rattle.std.proofs.Common.{sym, ◌∙◌, ap, inl, inr, arith, eqb-true, eq-eqb, mul_comm, mul_assoc, zero-mul}
use Rattle.std.proofs.lemmas.Bool.{both_ways, cases_Bool, false_from_ne_true}
use native.Mathlib.Nat.{mod-eq-zero_of_dvd, dvd_antisymm, eq_of_mul-eq-mul_left}
use native.Mathlib.Decide.{dec_le}
use Rattle.algebra.specs.Divisor.{Dvd, is_divisor}

pub divisor_of_test : (d m : ℕ) → is_divisor d m ≡ true → Dvd d m
divisor_of_test d m e = (m / d, whole (m % d) (eqb-true (m % d) 0 e))
  where
    whole : (r : ℕ) → m % d ≡ 0 → m ≡ m / d * d
    whole r z = omega arith

pub divisor_yes : (d m : ℕ) → Dvd d m → is_divisor d m ≡ true
divisor_yes d m h = eq-eqb (m % d) 0 (mod-eq-zero_of_dvd d ∣ (h.0, h.1 ∙ mul_comm h.0 d) ∣₁)

pub divisor_no : (d m : ℕ) → (Dvd d m → ⊥) → is_divisor d m ≡ false
divisor_no d m h = false_from_ne_true (is_divisor d m) (λ e. h (divisor_of_test d m e))

pub divisor_cases : (d m : ℕ) → ((is_divisor d m ≡ true) × Dvd d m) ⊎ ((is_divisor d m ≡ false) × (Dvd d m → ⊥))
divisor_cases d m = go (cases_Bool (is_divisor d m))
  where
    go : (is_divisor d m ≡ true) ⊎ (is_divisor d m ≡ false) → ((is_divisor d m ≡ true) × Dvd d m) ⊎ ((is_divisor d m ≡ false) × (Dvd d m → ⊥))
    go (inl e) = inl (e, divisor_of_test d m e)
    go (inr e) = inr (e, λ h. both_ways (is_divisor d m) e (divisor_yes d m h))

pub Dvd_refl : (a : ℕ) → Dvd a a
Dvd_refl a = (1, omega arith)

pub Dvd_trans : (a b c : ℕ) → Dvd a b → Dvd b c → Dvd a c
Dvd_trans a b c h k = (k.0 * h.0, k.1 ∙ ap (λ z. k.0 * z) h.1 ∙ sym (mul_assoc k.0 h.0 a))

pub Dvd_antisymm : (a b : ℕ) → Dvd a b → Dvd b a → a ≡ b
Dvd_antisymm a b h k = dvd_antisymm ∣ (h.0, h.1 ∙ mul_comm h.0 a) ∣₁ ∣ (k.0, k.1 ∙ mul_comm k.0 b) ∣₁

pub Dvd_multiple : (d a k : ℕ) → Dvd d a → Dvd d (k * a)
Dvd_multiple d a k h = Dvd_trans d a (k * a) h (k, omega arith)

pub Dvd_sum : (d a b : ℕ) → Dvd d a → Dvd d b → Dvd d (a + b)
Dvd_sum d a b h k = (h.0 + k.0, omega (arith, h.1, k.1))

-- the other summand of a multiple
pub Dvd_rest : (d a b : ℕ) → Dvd d a → Dvd d (a + b) → Dvd d b
Dvd_rest d a b h k = (k.0 - h.0, go (dec_le h.0 k.0))
  where
    go : Dec (h.0 ≤ k.0) → b ≡ (k.0 - h.0) * d
    go (yes l) = fill (k.0 - h.0) (omega arith)
      where
        fill : (t : ℕ) → k.0 ≡ h.0 + t → b ≡ t * d
        fill t e = omega (arith, h.1, k.1, ap (λ z. z * d) e)
    go (no l) = omega (arith, h.1, k.1, short (h.0 - k.0) (omega arith), none)
      where
        none : (k.0 - h.0) * d ≡ 0
        none = ap (λ z. z * d) (let e : k.0 - h.0 ≡ 0 = omega arith in e) ∙ zero-mul d

        short : (t : ℕ) → h.0 ≡ k.0 + t → h.0 * d ≡ k.0 * d + t * d
        short t e = omega (arith, ap (λ z. z * d) e)

-- a divisor of a number above 0 is above 0, and at most that number
pub Dvd_positive : (d m : ℕ) → 0 < m → Dvd d m → 0 < d
Dvd_positive zero m p h = absurd (omega (arith, h.1))
Dvd_positive (suc d) m p h = omega arith

pub Dvd_le : (d m : ℕ) → 0 < m → Dvd d m → d ≤ m
Dvd_le d m p h = go h.0 h.1
  where
    go : (k : ℕ) → m ≡ k * d → d ≤ m
    go zero e = absurd (omega arith)
    go (suc k) e = omega arith

pub larger_no : (d m : ℕ) → 0 < m → m < d → Dvd d m → ⊥
larger_no d m p l h = omega (arith, Dvd_le d m p h)

-- a common factor is taken out
pub Dvd_scaled : (k d m : ℕ) → Dvd d m → Dvd (k * d) (k * m)
Dvd_scaled k d m h = (h.0, omega (arith, ap (λ z. k * z) h.1))

pub Dvd_unscaled : (k d m : ℕ) → 0 < k → Dvd (k * d) (k * m) → Dvd d m
Dvd_unscaled k d m p h = (h.0, eq_of_mul-eq-mul_left k p m (h.0 * d) (h.1 ∙ over))
  where
    over : h.0 * (k * d) ≡ k * (h.0 * d)
    over = omega arith
