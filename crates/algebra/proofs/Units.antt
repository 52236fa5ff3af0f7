-- The greatest common divisor, and units modulo m by their inverses.
use Rattle.std.specs.Prelude.{◌≡◌, ℕ, zero, suc, ◌+◌, ◌*◌, ◌/◌, ◌%◌, ◌<◌, ◌≤◌, ◌⊎◌, true, false, ◌&&◌}
use Rattle.std.proofs.Common.{sym, ◌∙◌, ap, subst, inl, inr, arith, eqb-true, eq-eqb, eq-or-lt_of_le, le_antisymm, mul-pos, mul_comm, ap₂, div-add-mod'}
use Rattle.std.proofs.lemmas.Bool.{cases_Bool, and_parts, and_from, both_ways}
use Rattle.algebra.specs.Divisor.{Dvd, is_divisor, common_divisor, gcd, UnitModulo, is_unit, HasInverse}
use Rattle.algebra.proofs.Divisors.{divisor_of_test, divisor_yes, Dvd_antisymm, Dvd_multiple, Dvd_sum, Dvd_rest, Dvd_positive, Dvd_le, Dvd_unscaled, Dvd_scaled}
use Rattle.algebra.proofs.Euclid.{Euclid, euclid}

hit : (a b n : ℕ) → (is_divisor (suc n) a && is_divisor (suc n) b) ≡ true → common_divisor a b (suc n) ≡ suc n
hit a b n e = rw (e, common_divisor)

miss : (a b n : ℕ) → (is_divisor (suc n) a && is_divisor (suc n) b) ≡ false → common_divisor a b (suc n) ≡ common_divisor a b n
miss a b n e = rw (e, common_divisor)

-- every common divisor up to n is at most the one that is found
found_le : (a b n d : ℕ) → d ≤ n → Dvd d a → Dvd d b → d ≤ common_divisor a b n
found_le a b zero d l h k = l
found_le a b (suc n) d l h k = go (cases_Bool (is_divisor (suc n) a && is_divisor (suc n) b)) (eq-or-lt_of_le l) (λ s. found_le a b n d s h k)
  where
    divided : d ≡ suc n → (is_divisor (suc n) a && is_divisor (suc n) b) ≡ true
    divided s = and_from (is_divisor (suc n) a) (is_divisor (suc n) b) (divisor_yes (suc n) a (subst (λ z. Dvd z a) s h)) (divisor_yes (suc n) b (subst (λ z. Dvd z b) s k))

    go : ((is_divisor (suc n) a && is_divisor (suc n) b) ≡ true) ⊎ ((is_divisor (suc n) a && is_divisor (suc n) b) ≡ false) → (d ≡ suc n) ⊎ (d < suc n) → (d ≤ n → d ≤ common_divisor a b n) → d ≤ common_divisor a b (suc n)
    go (inl e) o r = rw (hit a b n e) l
    go (inr e) (inl s) r = absurd (both_ways (is_divisor (suc n) a && is_divisor (suc n) b) e (divided s))
    go (inr e) (inr s) r = rw (miss a b n e) (r (omega arith))

-- what is found above 0 divides both
found_divides : (a b n : ℕ) → 0 < common_divisor a b n → Dvd (common_divisor a b n) a × Dvd (common_divisor a b n) b
found_divides a b zero p = absurd (omega arith)
found_divides a b (suc n) p = go (cases_Bool (is_divisor (suc n) a && is_divisor (suc n) b)) (found_divides a b n)
  where
    Both : ℕ → Type 0
    Both d = Dvd d a × Dvd d b

    go : ((is_divisor (suc n) a && is_divisor (suc n) b) ≡ true) ⊎ ((is_divisor (suc n) a && is_divisor (suc n) b) ≡ false) → (0 < common_divisor a b n → Both (common_divisor a b n)) → Both (common_divisor a b (suc n))
    go (inl e) r = subst Both (sym (hit a b n e)) (divisor_of_test (suc n) a (and_parts _ _ e).0, divisor_of_test (suc n) b (and_parts _ _ e).1)
    go (inr e) r = subst Both (sym (miss a b n e)) (r (subst (λ z. 0 < z) (miss a b n e) p))

gcd_positive : (a b : ℕ) → 0 < b → 0 < gcd a b
gcd_positive a b p = found_le a b b 1 p (a, omega arith) (b, omega arith)

pub gcd_divides_left : (a b : ℕ) → 0 < b → Dvd (gcd a b) a
gcd_divides_left a b p = (found_divides a b b (gcd_positive a b p)).0

pub gcd_divides_right : (a b : ℕ) → 0 < b → Dvd (gcd a b) b
gcd_divides_right a b p = (found_divides a b b (gcd_positive a b p)).1

-- a common divisor divides Euclid's
pub divides_sum : (a b d : ℕ) (E : Euclid a b) → Dvd d a → Dvd d b → Dvd d E.g
divides_sum a b d E h k = Dvd_rest d (E.v * b) E.g (Dvd_multiple d b E.v k) (subst (λ z. Dvd d z) E.sum (Dvd_multiple d a E.u h))

-- Euclid's number is the greatest common divisor
pub gcd_is_euclid : (a b : ℕ) → 0 < a → 0 < b → (E : Euclid a b) → gcd a b ≡ E.g
gcd_is_euclid a b p q E = le_antisymm below above
  where
    of_a : Dvd E.g a
    of_a = (E.of_a, E.divides_a)

    of_b : Dvd E.g b
    of_b = (E.of_b, E.divides_b)

    above : E.g ≤ gcd a b
    above = found_le a b b E.g (Dvd_le E.g b q of_b) of_a of_b

    below : gcd a b ≤ E.g
    below = Dvd_le (gcd a b) E.g (Dvd_positive E.g a p of_a) (divides_sum a b (gcd a b) E (gcd_divides_left a b q) (gcd_divides_right a b q))

pub gcd_greatest : (a b d : ℕ) → 0 < a → 0 < b → Dvd d a → Dvd d b → Dvd d (gcd a b)
gcd_greatest a b d p q h k = subst (λ z. Dvd d z) (sym (gcd_is_euclid a b p q (euclid a b p q))) (divides_sum a b d (euclid a b p q) h k)

-- a common factor goes through
pub gcd_scaled : (k a b : ℕ) → 0 < k → 0 < a → 0 < b → gcd (k * a) (k * b) ≡ k * gcd a b
gcd_scaled k a b p q r = Dvd_antisymm (gcd (k * a) (k * b)) (k * gcd a b) down up
  where
    pa : 0 < k * a
    pa = mul-pos p q

    pb : 0 < k * b
    pb = mul-pos p r

    up : Dvd (k * gcd a b) (gcd (k * a) (k * b))
    up = gcd_greatest (k * a) (k * b) (k * gcd a b) pa pb (Dvd_scaled k (gcd a b) a (gcd_divides_left a b r)) (Dvd_scaled k (gcd a b) b (gcd_divides_right a b r))

    -- k divides the left side
    factor : Dvd k (gcd (k * a) (k * b))
    factor = gcd_greatest (k * a) (k * b) k pa pb (a, omega arith) (b, omega arith)

    down : Dvd (gcd (k * a) (k * b)) (k * gcd a b)
    down = go factor.0 (factor.1 ∙ mul_comm factor.0 k)
      where
        go : (t : ℕ) → gcd (k * a) (k * b) ≡ k * t → Dvd (gcd (k * a) (k * b)) (k * gcd a b)
        go t e = subst (λ z. Dvd z (k * gcd a b)) (sym e) (Dvd_scaled k t (gcd a b) (gcd_greatest a b t q r (Dvd_unscaled k t a p (subst (λ z. Dvd z (k * a)) e (gcd_divides_left (k * a) (k * b) pb))) (Dvd_unscaled k t b p (subst (λ z. Dvd z (k * b)) e (gcd_divides_right (k * a) (k * b) pb)))))

pub unit_of_inverse : (m k : ℕ) → HasInverse m k → UnitModulo m k
unit_of_inverse m k h d a b = divides_one (Dvd_rest d (m * h.1) 1 of_m (subst (λ z. Dvd d z) h.2 of_k))
  where
    of_k : Dvd d (k * h.0)
    of_k = subst (λ z. Dvd d z) (mul_comm h.0 k) (Dvd_multiple d k h.0 a)

    of_m : Dvd d (m * h.1)
    of_m = subst (λ z. Dvd d z) (mul_comm h.1 m) (Dvd_multiple d m h.1 b)

    divides_one : Dvd d 1 → d ≡ 1
    divides_one l = Dvd_antisymm d 1 l (d, omega arith)

pub inverse_of_unit : (m k : ℕ) → 0 < m → 0 < k → UnitModulo m k → HasInverse m k
inverse_of_unit m k p q h = (E.u, E.v, omega (arith, E.sum, h E.g (E.of_a, E.divides_a) (E.of_b, E.divides_b)))
  where
    E : Euclid k m
    E = euclid k m q p

pub inverse_of_product : (m a b : ℕ) → HasInverse m a → HasInverse m b → HasInverse m (a * b)
inverse_of_product m a b h k = (h.0 * k.0, m * h.1 * k.1 + h.1 + k.1, whole)
  where
    whole : a * b * (h.0 * k.0) ≡ m * (m * h.1 * k.1 + h.1 + k.1) + 1
    whole = swap ∙ ap₂ (λ x y. x * y) h.2 k.2 ∙ out
      where
        swap : a * b * (h.0 * k.0) ≡ a * h.0 * (b * k.0)
        swap = omega arith

        out : (m * h.1 + 1) * (m * k.1 + 1) ≡ m * (m * h.1 * k.1 + h.1 + k.1) + 1
        out = omega arith

-- the inverse is invertible
pub inverse_of_inverse : (m k : ℕ) (h : HasInverse m k) → HasInverse m h.0
inverse_of_inverse m k h = (k, h.1, mul_comm h.0 k ∙ h.2)

-- a unit is taken out of a multiple of m
pub unit_cancels : (m k e : ℕ) → HasInverse m k → Dvd m (k * e) → Dvd m e
unit_cancels m k e h d = Dvd_rest m (m * h.1 * e) e (h.1 * e, omega arith) (subst (λ z. Dvd m z) whole (Dvd_multiple m (k * e) h.0 d))
  where
    whole : h.0 * (k * e) ≡ m * h.1 * e + e
    whole = swap ∙ ap (λ z. z * e) h.2 ∙ out
      where
        swap : h.0 * (k * e) ≡ k * h.0 * e
        swap = omega arith

        out : (m * h.1 + 1) * e ≡ m * h.1 * e + e
        out = omega arith

-- the test says it
pub unit_of_test : (m k : ℕ) → 0 < m → 0 < k → is_unit m k ≡ true → UnitModulo m k
unit_of_test m k p q e d a b = Dvd_antisymm d 1 (subst (λ z. Dvd d z) (eqb-true (gcd k m) 1 e) (gcd_greatest k m d q p a b)) (d, omega arith)

pub unit_yes : (m k : ℕ) → 0 < m → UnitModulo m k → is_unit m k ≡ true
unit_yes m k p h = eq-eqb (gcd k m) 1 (h (gcd k m) (gcd_divides_left k m p) (gcd_divides_right k m p))

-- being a unit hangs on the residue alone
pub unit_of_residue : (m k : ℕ) → UnitModulo m (k % m) → UnitModulo m k
unit_of_residue m k h d a b = h d (Dvd_rest d (k / m * m) (k % m) (Dvd_multiple d m (k / m) b) (subst (λ z. Dvd d z) (sym (div-add-mod' k m)) a)) b

pub residue_of_unit : (m k : ℕ) → UnitModulo m k → UnitModulo m (k % m)
residue_of_unit m k h d a b = h d (subst (λ z. Dvd d z) (div-add-mod' k m) (Dvd_sum d (k / m * m) (k % m) (Dvd_multiple d m (k / m) b) a)) b
