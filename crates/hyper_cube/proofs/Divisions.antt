-- Euclid's algorithm, and the lists of units.
use Rattle.std.specs.Prelude.{◌≡◌, ◌↔◌, ℕ, suc, ◌+◌, ◌*◌, ◌/◌, ◌%◌, ◌<◌, Bool, true, false, cond, List, [], ◌∷◌, ◌++◌, refl}
use Rattle.std.proofs.Common.{arith, sym, ◌∙◌, ap, subst, div-add-mod', append-nil}
use Rattle.algebra.specs.Range.{total, counts}
use Rattle.algebra.specs.Divisor.{Dvd, gcd, is_unit, units_upto}
use Rattle.algebra.proofs.Divisors.{Dvd_refl, Dvd_antisymm, Dvd_multiple, Dvd_sum, Dvd_rest}
use Rattle.algebra.proofs.Units.{gcd_divides_left, gcd_divides_right, gcd_greatest}

module _ (a b : ℕ) where
  abbrev HasCommon : ℕ → ℕ → Type 0
  HasCommon high low = (d : ℕ) → (Dvd d high × Dvd d low) ↔ (Dvd d a × Dvd d b)

  pub common_step : (high low : ℕ) → HasCommon high low → HasCommon low (high % low)
  common_step high low h d = (λ k. (h d).0 (whole k, k.0), λ k. rest ((h d).1 k))
    where
      whole : Dvd d low × Dvd d (high % low) → Dvd d high
      whole k = subst (Dvd d) (div-add-mod' high low) (Dvd_sum d (high / low * low) (high % low) (Dvd_multiple d low (high / low) k.0) k.1)

      rest : Dvd d high × Dvd d low → Dvd d low × Dvd d (high % low)
      rest k = (k.1, Dvd_rest d (high / low * low) (high % low) (Dvd_multiple d low (high / low) k.1) (subst (Dvd d) (sym (div-add-mod' high low)) k.0))

  pub common_end : (high low : ℕ) → 0 < a → 0 < b → low ≡ 0 → HasCommon high low → high ≡ gcd a b
  common_end high low p q e h = Dvd_antisymm high (gcd a b) (gcd_greatest a b high p q own.0 own.1) ((h (gcd a b)).1 (gcd_divides_left a b q, gcd_divides_right a b q)).0
    where
      own : Dvd high a × Dvd high b
      own = (h high).0 (Dvd_refl high, (0, omega (arith, e)))

-- ---- one number more
abbrev tally : Bool → ℕ
tally b = cond b 1 0

pub count_hit : (m t n : ℕ) → n ≡ total counts t (λ t. cond (is_unit m (suc t)) 1 0) → is_unit m (t + 1) ≡ true → n + 1 ≡ total counts (t + 1) (λ t. cond (is_unit m (suc t)) 1 0)
count_hit m t n e h = go (t + 1) (omega arith) h
  where
    go : (s : ℕ) → s ≡ suc t → is_unit m s ≡ true → n + 1 ≡ total counts s (λ t. cond (is_unit m (suc t)) 1 0)
    go s f h = subst (λ z. n + 1 ≡ total counts z (λ t. cond (is_unit m (suc t)) 1 0)) (sym f) (omega (arith, e, one))
      where
        one : tally (is_unit m (suc t)) ≡ 1
        one = ap tally (ap (is_unit m) (sym f) ∙ h)

pub count_miss : (m t n : ℕ) → n ≡ total counts t (λ t. cond (is_unit m (suc t)) 1 0) → is_unit m (t + 1) ≡ false → n ≡ total counts (t + 1) (λ t. cond (is_unit m (suc t)) 1 0)
count_miss m t n e h = go (t + 1) (omega arith) h
  where
    go : (s : ℕ) → s ≡ suc t → is_unit m s ≡ false → n ≡ total counts s (λ t. cond (is_unit m (suc t)) 1 0)
    go s f h = subst (λ z. n ≡ total counts z (λ t. cond (is_unit m (suc t)) 1 0)) (sym f) (omega (arith, e, none))
      where
        none : tally (is_unit m (suc t)) ≡ 0
        none = ap tally (ap (is_unit m) (sym f) ∙ h)

units_hit : (m n : ℕ) → is_unit m (suc n) ≡ true → units_upto m (suc n) ≡ units_upto m n ++ suc n ∷ []
unfolding units_upto
units_hit m n e = rw e

units_miss : (m n : ℕ) → is_unit m (suc n) ≡ false → units_upto m (suc n) ≡ units_upto m n
unfolding units_upto
units_miss m n e = rw e (append-nil (units_upto m n))

pub list_hit : (m t : ℕ) (xs : List ℕ) → xs ≡ units_upto m t → is_unit m (t + 1) ≡ true → xs ++ (t + 1) ∷ [] ≡ units_upto m (t + 1)
list_hit m t xs e h = go (t + 1) (omega arith) h
  where
    go : (s : ℕ) → s ≡ suc t → is_unit m s ≡ true → xs ++ s ∷ [] ≡ units_upto m s
    go s f h = ap (λ z. xs ++ z ∷ []) f ∙ ap (λ z. z ++ suc t ∷ []) e ∙ sym (units_hit m t (ap (is_unit m) (sym f) ∙ h)) ∙ ap (units_upto m) (sym f)

pub list_miss : (m t : ℕ) (xs : List ℕ) → xs ≡ units_upto m t → is_unit m (t + 1) ≡ false → xs ≡ units_upto m (t + 1)
list_miss m t xs e h = go (t + 1) (omega arith) h
  where
    go : (s : ℕ) → s ≡ suc t → is_unit m s ≡ false → xs ≡ units_upto m s
    go s f h = e ∙ sym (units_miss m t (ap (is_unit m) (sym f) ∙ h)) ∙ ap (units_upto m) (sym f)

pub list_none : (m : ℕ) → [] ≡ units_upto m 0
unfolding units_upto
list_none m = refl
