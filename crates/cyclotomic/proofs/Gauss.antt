-- The numbers of units modulo the divisors of m sum to m.
use Rattle.std.specs.Prelude.{◌≡◌, ℕ, zero, suc, ◌+◌, ◌*◌, ◌<◌, ◌≢◌, ◌⊎◌, true, false, cond, eqb}
use Rattle.std.proofs.Common.{sym, ◌∙◌, refl, ap, ap₂, subst, inl, inr, arith, eqb-true, eq-eqb, ne_eqb, mul_comm, zero-lt-suc}
use Rattle.std.proofs.lemmas.Bool.{cases_Bool, both_ways}
use native.Mathlib.Nat.{eq_of_mul-eq-mul_left}
use Rattle.algebra.specs.Range.{total, counts}
use Rattle.algebra.specs.Divisor.{Dvd, is_divisor, gcd, is_unit, number_of_units}
use Rattle.algebra.proofs.Divisors.{divisor_cases, Dvd_positive, Dvd_le, Dvd_rest}
use Rattle.algebra.proofs.Units.{gcd_divides_left, gcd_divides_right, gcd_scaled}
use Rattle.algebra.proofs.Ranges.{total_cong, total_units, total_split, total_exchange, total_single, count_laws}

-- the sum of f over the numbers below n
abbrev count : ℕ → (ℕ → ℕ) → ℕ
count n f = total counts n f

-- of blocks of k + 1 terms only the last of each counts
blocks : (k d : ℕ) (f : ℕ → ℕ) → ((t : ℕ) → (Dvd (suc k) (suc t) → ⊥) → f t ≡ 0) → count (d * suc k) f ≡ count d (λ a. f (a * suc k + k))
blocks k zero f h = at (0 * suc k) (omega arith)
  where
    at : (n : ℕ) → n ≡ 0 → count n f ≡ 0
    at n e = ap (λ z. count z f) e
blocks k (suc d) f h = at (suc d * suc k) (omega arith) ∙ total_split counts count_laws (d * suc k) (suc k) f ∙ ap₂ (λ y z. y + z) (blocks k d f h) last
  where
    at : (n : ℕ) → n ≡ d * suc k + suc k → count n f ≡ count (d * suc k + suc k) f
    at n e = ap (λ z. count z f) e

    -- suc k does not divide d * suc k + i + 1 for i < k
    between : (i : ℕ) → i < suc k → i ≢ k → Dvd (suc k) (suc (d * suc k + i)) → ⊥
    between i l n e = omega (arith, Dvd_le (suc k) (suc i) (omega arith) (Dvd_rest (suc k) (d * suc k) (suc i) (d, refl) (subst (λ z. Dvd (suc k) z) same e)))
      where
        same : suc (d * suc k + i) ≡ d * suc k + suc i
        same = omega arith

    last : count (suc k) (λ i. f (d * suc k + i)) ≡ f (d * suc k + k)
    last = total_single counts count_laws (suc k) k (λ i. f (d * suc k + i)) (omega arith) (λ i l n. h (d * suc k + i) (between i l n))

-- 1 where the greatest common divisor of t + 1 and m is m / d
abbrev pair : ℕ → ℕ → ℕ → ℕ
pair m t i = cond (eqb (gcd (suc t) m * suc i) m) 1 0

-- exactly one d pairs with t
pairs_of_number : (m t : ℕ) → 0 < m → count m (pair m t) ≡ 1
pairs_of_number m t p = go (gcd_divides_right (suc t) m p)
  where
    go : Dvd (gcd (suc t) m) m → count m (pair m t) ≡ 1
    go (k, e) = at k e
      where
        at : (k : ℕ) → m ≡ k * gcd (suc t) m → count m (pair m t) ≡ 1
        at zero e = absurd (omega arith)
        at (suc j) e = total_single counts count_laws m j (pair m t) room others ∙ ap (λ b. cond b 1 0) (eq-eqb (gcd (suc t) m * suc j) m (mul_comm (gcd (suc t) m) (suc j) ∙ sym e))
          where
            above : 0 < gcd (suc t) m
            above = Dvd_positive (gcd (suc t) m) m p (gcd_divides_right (suc t) m p)

            room : j < m
            room = Dvd_le (suc j) m p (gcd (suc t) m, e ∙ mul_comm (suc j) (gcd (suc t) m))

            others : (i : ℕ) → i < m → i ≢ j → pair m t i ≡ 0
            others i l n = ap (λ b. cond b 1 0) (ne_eqb (gcd (suc t) m * suc i) m (λ s. n (same (eq_of_mul-eq-mul_left (gcd (suc t) m) above (suc i) (suc j) (s ∙ e ∙ mul_comm (suc j) (gcd (suc t) m))))))
              where
                same : suc i ≡ suc j → i ≡ j
                same s = omega arith

-- the t that pair with a divisor d of m are as many as the units modulo d
pairs_of_divisor : (m i : ℕ) → 0 < m → count m (λ t. pair m t i) ≡ cond (is_divisor (suc i) m) (number_of_units (suc i)) 0
pairs_of_divisor m i p = go (divisor_cases (suc i) m)
  where
    none : (Dvd (suc i) m → ⊥) → (t : ℕ) → t < m → pair m t i ≡ 0
    none h t l = ap (λ b. cond b 1 0) (ne_eqb (gcd (suc t) m * suc i) m (λ s. h (gcd (suc t) m, sym s)))

    at : (k : ℕ) → m ≡ k * suc i → count m (λ t. pair m t i) ≡ number_of_units (suc i)
    at zero e = absurd (omega arith)
    at (suc k) e = ap (λ z. count z (λ t. pair m t i)) (e ∙ mul_comm (suc k) (suc i)) ∙ blocks k (suc i) (λ t. pair m t i) apart ∙ total_cong counts count_laws (suc i) (λ a. pair m (a * suc k + k) i) (λ a. cond (is_unit (suc i) (suc a)) 1 0) same
      where
        -- the greatest common divisor is k + 1
        common : (g : ℕ) → g * suc i ≡ m → g ≡ suc k
        common g s = eq_of_mul-eq-mul_left (suc i) (zero-lt-suc i) g (suc k) (mul_comm (suc i) g ∙ s ∙ e ∙ mul_comm (suc k) (suc i))

        apart : (t : ℕ) → (Dvd (suc k) (suc t) → ⊥) → pair m t i ≡ 0
        apart t h = ap (λ b. cond b 1 0) (ne_eqb (gcd (suc t) m * suc i) m (λ s. h (subst (λ z. Dvd z (suc t)) (common (gcd (suc t) m) s) (gcd_divides_left (suc t) m p))))

        same : (a : ℕ) → a < suc i → pair m (a * suc k + k) i ≡ cond (is_unit (suc i) (suc a)) 1 0
        same a l = ap (λ b. cond b 1 0) (test (gcd (suc a) (suc i)) (ap₂ gcd row (e) ∙ gcd_scaled (suc k) (suc a) (suc i) (zero-lt-suc k) (zero-lt-suc a) (zero-lt-suc i)))
          where
            row : suc (a * suc k + k) ≡ suc k * suc a
            row = omega arith

            test : (g : ℕ) → gcd (suc (a * suc k + k)) m ≡ suc k * g → eqb (gcd (suc (a * suc k + k)) m * suc i) m ≡ eqb g 1
            test g s = cases (cases_Bool (eqb g 1))
              where
                cases : (eqb g 1 ≡ true) ⊎ (eqb g 1 ≡ false) → eqb (gcd (suc (a * suc k + k)) m * suc i) m ≡ eqb g 1
                cases (inl y) = eq-eqb (gcd (suc (a * suc k + k)) m * suc i) m (ap (λ z. z * suc i) (s ∙ ap (λ z. suc k * z) (eqb-true g 1 y) ∙ one) ∙ sym e) ∙ sym y
                  where
                    one : suc k * 1 ≡ suc k
                    one = omega arith
                cases (inr n) = ne_eqb (gcd (suc (a * suc k + k)) m * suc i) m (λ y. both_ways (eqb g 1) n (eq-eqb g 1 (unit (sym s ∙ common (gcd (suc (a * suc k + k)) m) y)))) ∙ sym n
                  where
                    unit : suc k * g ≡ suc k → g ≡ 1
                    unit y = eq_of_mul-eq-mul_left (suc k) (zero-lt-suc k) g 1 (let o : suc k ≡ suc k * 1 = omega arith in y ∙ o)

    go : ((is_divisor (suc i) m ≡ true) × Dvd (suc i) m) ⊎ ((is_divisor (suc i) m ≡ false) × (Dvd (suc i) m → ⊥)) → count m (λ t. pair m t i) ≡ cond (is_divisor (suc i) m) (number_of_units (suc i)) 0
    go (inl (y, d)) = at d.0 d.1 ∙ ap (λ b. cond b (number_of_units (suc i)) 0) (sym y)
    go (inr (n, h)) = total_units counts count_laws m (λ t. pair m t i) (none h) ∙ ap (λ b. cond b (number_of_units (suc i)) 0) (sym n)

ones : (n : ℕ) → count n (λ i. 1) ≡ n
ones zero = refl
ones (suc n) = omega (arith, ones n)

pub sum_of_units : (m : ℕ) → 0 < m → total counts m (λ i. cond (is_divisor (suc i) m) (number_of_units (suc i)) 0) ≡ m
sum_of_units m p = sym (total_cong counts count_laws m (λ i. count m (λ t. pair m t i)) (λ i. cond (is_divisor (suc i) m) (number_of_units (suc i)) 0) (λ i l. pairs_of_divisor m i p)) ∙ total_exchange counts count_laws m m (λ i t. pair m t i) ∙ total_cong counts count_laws m (λ t. count m (pair m t)) (λ t. 1) (λ t l. pairs_of_number m t p) ∙ ones m
