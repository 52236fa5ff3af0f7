-- The steps of the powers of X modulo Phi_m.
use Rattle.std.specs.Prelude.{◌≡◌, ℕ, zero, suc, ◌+◌, ◌-◌, ◌*◌, ◌^◌, ◌<◌, ◌≤◌, ◌≢◌, ◌⊎◌, true, false, cond, max, List, ◌∷◌, ◌++◌, length, take, drop, replicate, get_or, ℤ, pos, ◌+ℤ◌, ◌*ℤ◌, neg_ℤ, nat_abs, refl}
use Rattle.std.proofs.Common.{add-one, sym, ◌∙◌, ap, ap₂, subst, inl, inr, arith, set, eq-or-lt_of_le}
use Rattle.std.proofs.lemmas.List.{drop_all, take_all, append-nil, get_or_past, get_or-take, length-replicate, length-set, get_or-set_same, get_or-set_other}
use Rattle.std.proofs.lemmas.Bool.{cases_lt, cases_order, cases_Bool}
use Rattle.algebra.specs.Ring.{whole_numbers}
use Rattle.algebra.specs.Range.{total, counts}
use Rattle.algebra.specs.Series.{shifted, const}
use Rattle.algebra.specs.Divisor.{is_unit}
use Rattle.algebra.specs.Poly.{coeff, SameCoeffs, plus, scaled, monomial}
use Rattle.algebra.proofs.Basic.{zero_mul, add_zero}
use Rattle.algebra.proofs.Integers.{whole_ring}
use Rattle.algebra.proofs.Divisors.{Dvd_le}
use Rattle.algebra.proofs.Ranges.{total_first, count_laws}
use Rattle.algebra.proofs.Units.{unit_yes}
use Rattle.algebra.proofs.Spread.{shifted_high, shifted_low}
use Rattle.algebra.proofs.Lists.{length-monomial, coeff-plus, coeff-scaled, coeff-monomial}
use Rattle.algebra.proofs.Dividing.{length-remainder, remainder_short, remainder_cons, coeff-none}
use Rattle.cyclotomic.specs.Cyclotomic.{phi, degree, fold}
use Rattle.cyclotomic.specs.Norm.{greatest, height}
use Rattle.cyclotomic.proofs.PhiLists.{phi_monic, phi_degree}
use Rattle.cyclo_poly.specs.Powers.{IsLowered, height_from}
use Rattle.cyclo_poly.specs.Tall.{any_below, is_large, AllSmall, has_large_power}
use Rattle.cyclo_poly.proofs.MemberSteps.{degree_less}
use Rattle.cyclo_poly.proofs.LargeSteps.{any_at, any_none, any_more, small_not_large, not_large_small}

-- ---- greatest values
pub greatest_le : (n i : ℕ) (f : ℕ → ℕ) → i < n → f i ≤ total greatest n f
greatest_le zero i f l = absurd (omega arith)
greatest_le (suc n) i f l = go (greatest_le n i f) (eq-or-lt_of_le (let k : i ≤ n = omega arith in k))
  where
    go : (i < n → f i ≤ total greatest n f) → (i ≡ n) ⊎ (i < n) → f i ≤ max (total greatest n f) (f n)
    go r (inl d) = omega (arith, ap f d)
    go r (inr s) = omega (arith, r s)

pub greatest_lt : (n B : ℕ) (f : ℕ → ℕ) → 0 < B → ((i : ℕ) → i < n → f i < B) → total greatest n f < B
greatest_lt zero B f p h = p
greatest_lt (suc n) B f p h = omega (arith, greatest_lt n B f p (λ i l. h i (omega arith)), h n (omega arith))

abbrev pub row_height : List ℤ → ℕ → ℕ
row_height f n = total greatest n (λ i. nat_abs (coeff whole_numbers f i))

pub small_row : (f : List ℤ) (n : ℕ) → length f ≤ n → row_height f n < 2 ^ 31 → AllSmall f
small_row f n l h i = go (cases_lt i n)
  where
    go : (i < n) ⊎ (n ≤ i) → nat_abs (coeff whole_numbers f i) < 2 ^ 31
    go (inl m) = omega (arith, greatest_le n i (λ i. nat_abs (coeff whole_numbers f i)) m, h)
    go (inr m) = subst (λ z. nat_abs z < 2 ^ 31) (sym (get_or_past f i (pos 0) (omega arith))) (omega arith)

pub large_row : (f : List ℤ) (n : ℕ) → 2 ^ 31 ≤ row_height f n → is_large f ≡ true
large_row f n h = go (cases_Bool (is_large f))
  where
    go : (is_large f ≡ true) ⊎ (is_large f ≡ false) → is_large f ≡ true
    go (inl e) = e
    go (inr e) = absurd (omega (arith, h, greatest_lt n (2 ^ 31) (λ i. nat_abs (coeff whole_numbers f i)) (omega arith) (λ i l. not_large_small f e i)))

-- ---- the first powers
pub degree_positive : (m : ℕ) → 0 < m → 0 < degree m
degree_positive zero p = absurd (omega arith)
degree_positive (suc k) p = subst (λ z. 0 < z) (sym (phi_degree k ∙ total_first counts count_laws k (λ t. cond (is_unit (suc k) (suc t)) 1 0) ∙ ap (λ b. cond b 1 0 + total counts k (λ t. cond (is_unit (suc k) (suc (suc t))) 1 0)) one)) (omega arith)
  where
    one : is_unit (suc k) 1 ≡ true
    one = unit_yes (suc k) 1 p (λ d h g. ones d (Dvd_le d 1 (omega arith) h) h.0 h.1)
      where
        ones : (d : ℕ) → d ≤ 1 → (u : ℕ) → 1 ≡ u * d → d ≡ 1
        ones zero l u e = absurd (omega arith)
        ones (suc zero) l u e = refl
        ones (suc (suc d)) l u e = absurd (omega arith)

monomial_at : (t i : ℕ) → nat_abs (coeff whole_numbers (monomial whole_numbers t) i) ≤ 1
monomial_at t i = subst (λ z. nat_abs z ≤ 1) (sym (coeff-monomial whole_ring t i)) (go (cases_lt i t))
  where
    at : (j : ℕ) → nat_abs (const whole_numbers (pos 1) j) ≤ 1
    at zero = omega arith
    at (suc j) = omega arith

    go : (i < t) ⊎ (t ≤ i) → nat_abs (shifted whole_numbers t (const whole_numbers (pos 1)) i) ≤ 1
    go (inl l) = subst (λ z. nat_abs z ≤ 1) (sym (shifted_low whole_ring t (const whole_numbers (pos 1)) i l)) (omega arith)
    go (inr l) = subst (λ z. nat_abs (shifted whole_numbers t (const whole_numbers (pos 1)) z) ≤ 1) (let e : t + (i - t) ≡ i = omega arith in e) (subst (λ z. nat_abs z ≤ 1) (sym (shifted_high whole_ring t (const whole_numbers (pos 1)) (i - t))) (at (i - t)))

monomial_top : (t : ℕ) → coeff whole_numbers (monomial whole_numbers t) t ≡ pos 1
monomial_top t = coeff-monomial whole_ring t t ∙ (let e : t ≡ t + 0 = omega arith in ap (shifted whole_numbers t (const whole_numbers (pos 1))) e) ∙ shifted_high whole_ring t (const whole_numbers (pos 1)) 0

module _ (k : ℕ) where
  abbrev m : ℕ
  m = suc k

  short_power : (t : ℕ) → t < degree m → SameCoeffs whole_numbers (fold m (monomial whole_numbers t)) (monomial whole_numbers t)
  short_power t l = remainder_short whole_ring (phi m) (phi_monic k) (monomial whole_numbers t) (omega (arith, length-monomial whole_numbers t))

  first_small : (t : ℕ) → t < degree m → AllSmall (fold m (monomial whole_numbers t))
  first_small t l i = subst (λ z. nat_abs z < 2 ^ 31) (sym (short_power t l i)) (omega (arith, monomial_at t i))

  first_height : (t : ℕ) → t < degree m → row_height (fold m (monomial whole_numbers t)) (degree m) ≡ 1
  first_height t l = least (row_height (fold m (monomial whole_numbers t)) (degree m)) (greatest_lt (degree m) 2 (λ i. nat_abs (coeff whole_numbers (fold m (monomial whole_numbers t)) i)) (omega arith) (λ i j. subst (λ z. nat_abs z < 2) (sym (short_power t l i)) (omega (arith, monomial_at t i)))) (subst (λ z. nat_abs z ≤ row_height (fold m (monomial whole_numbers t)) (degree m)) (short_power t l t ∙ monomial_top t) (greatest_le (degree m) t (λ i. nat_abs (coeff whole_numbers (fold m (monomial whole_numbers t)) i)) l))
    where
      least : (n : ℕ) → n < 2 → nat_abs (pos 1) ≤ n → n ≡ 1
      least n a b = omega (arith, a, b)

  pub first_heights : (n : ℕ) → 0 < n → n ≤ degree (suc k) → total greatest n (λ t. row_height (fold (suc k) (monomial whole_numbers t)) (degree (suc k))) ≡ 1
  first_heights zero p l = absurd (omega arith)
  first_heights (suc zero) p l = ap (λ z. max 0 z) (first_height 0 (omega arith))
  first_heights (suc (suc n)) p l = ap₂ max (first_heights (suc n) (omega arith) (omega arith)) (first_height (suc n) (omega arith))

  pub first_none : any_below (degree (suc k)) (λ t. is_large (fold (suc k) (monomial whole_numbers t))) ≡ false
  first_none = any_none (degree m) (λ t. is_large (fold m (monomial whole_numbers t))) (λ t l. small_not_large (fold m (monomial whole_numbers t)) (first_small t l))

-- ---- one step
-- one place more
pub lowered_more : (g : List ℤ) (y : ℤ) (from i : ℕ) (old cur new : List ℤ) (x : ℤ) → from + i < length cur → new ≡ set cur (from + i) x → x ≡ coeff whole_numbers cur (from + i) +ℤ neg_ℤ y *ℤ coeff whole_numbers g i → IsLowered g y from i old cur → IsLowered g y from (i + 1) old new
lowered_more g y from i old cur new x l e h L = record { within = λ j b. go j b (cases_order j i); before = λ j b. other j (λ d. omega arith) ∙ L.before j b; after = λ j b. other j (λ d. omega arith) ∙ L.after j (omega arith) }
  where
    other : (j : ℕ) → j ≢ from + i → coeff whole_numbers new j ≡ coeff whole_numbers cur j
    other j n = ap (λ z. get_or z j (pos 0)) e ∙ get_or-set_other cur (from + i) j x (pos 0) n

    go : (j : ℕ) → j < i + 1 → (j ≡ i) ⊎ ((j < i) ⊎ (i < j)) → coeff whole_numbers new (from + j) ≡ coeff whole_numbers old (from + j) +ℤ neg_ℤ y *ℤ coeff whole_numbers g j
    go j b (inl d) = ap (λ z. coeff whole_numbers new (from + z)) d ∙ ap (λ z. get_or z (from + i) (pos 0)) e ∙ get_or-set_same cur (from + i) x (pos 0) l ∙ h ∙ ap (λ z. z +ℤ neg_ℤ y *ℤ coeff whole_numbers g i) (L.after (from + i) (omega arith)) ∙ ap (λ z. coeff whole_numbers old (from + z) +ℤ neg_ℤ y *ℤ coeff whole_numbers g z) (sym d)
    go j b (inr (inl a)) = other (from + j) (λ d. omega arith) ∙ L.within j a
    go j b (inr (inr a)) = absurd (omega arith)

greatest_cong : (n : ℕ) (f g : ℕ → ℕ) → ((i : ℕ) → i < n → f i ≡ g i) → total greatest n f ≡ total greatest n g
greatest_cong zero f g h = refl
greatest_cong (suc n) f g h = ap₂ max (greatest_cong n f g (λ i l. h i (omega arith))) (h n (omega arith))

pub height_more : (cur new : List ℤ) (from i : ℕ) (x : ℤ) → from + i < length cur → new ≡ set cur (from + i) x → height_from new from (i + 1) ≡ max (height_from cur from i) (nat_abs x)
height_more cur new from i x l e = ap (height_from new from) (add-one i) ∙ ap₂ max (greatest_cong i (λ j. nat_abs (coeff whole_numbers new (from + j))) (λ j. nat_abs (coeff whole_numbers cur (from + j))) (λ j b. ap nat_abs (ap (λ z. get_or z (from + j) (pos 0)) e ∙ get_or-set_other cur (from + i) (from + j) x (pos 0) (λ d. omega arith)))) (ap nat_abs (ap (λ z. get_or z (from + i) (pos 0)) e ∙ get_or-set_same cur (from + i) x (pos 0) l))

-- no multiple
pub lowered_none : (g : List ℤ) (y : ℤ) (from n : ℕ) (row : List ℤ) → y ≡ pos 0 → IsLowered g y from n row row
lowered_none g y from n row e = record { within = λ i l. sym (ap (λ z. coeff whole_numbers row (from + i) +ℤ neg_ℤ z *ℤ coeff whole_numbers g i) e ∙ ap (λ z. coeff whole_numbers row (from + i) +ℤ z) (zero_mul whole_ring (coeff whole_numbers g i)) ∙ add_zero whole_ring (coeff whole_numbers row (from + i))); before = λ i l. refl; after = λ i l. refl }

pub height_under : (row : List ℤ) (from n most : ℕ) → ((i : ℕ) → nat_abs (coeff whole_numbers row i) ≤ most) → max most (height_from row from n) ≡ most
height_under row from n most h = omega (arith, greatest_lt n (most + 1) (λ i. nat_abs (coeff whole_numbers row (from + i))) (omega arith) (λ i l. omega (arith, h (from + i))))

-- ---- the row before the power X^t: the remainder of X^(t - 1) begins at place m - t, and most is the height up to it
pub record Powers (m t : ℕ) (row : List ℤ) (most : ℕ) : Type 0 where
  pub long : length row ≡ m
  pub blank : (i : ℕ) → i + t < m → coeff whole_numbers row i ≡ pos 0
  pub window : (i : ℕ) → i < degree m → coeff whole_numbers row (m - t + i) ≡ coeff whole_numbers (fold m (monomial whole_numbers (t - 1))) i
  pub under : (i : ℕ) → nat_abs (coeff whole_numbers row i) ≤ most
  pub most_is : most ≡ total greatest t (λ t. row_height (fold m (monomial whole_numbers t)) (degree m))
  pub most_high : most < 2 ^ 31
  pub most_low : 1 ≤ most
  pub none : any_below t (λ t. is_large (fold m (monomial whole_numbers t))) ≡ false

-- the row 0, .., 0, 1
pub powers_start : (m n last : ℕ) (row : List ℤ) → 1 < m → last + 1 ≡ m → n ≡ degree m → row ≡ set (replicate m (pos 0)) last (pos 1) → Powers m n row 1
powers_start zero n last row l f e h = absurd (omega arith)
powers_start (suc k) n last row l f e h = record {
  long = ap length h ∙ length-set (replicate (suc k) (pos 0)) last (pos 1) ∙ length-replicate (suc k) (pos 0);
  blank = λ i b. low i (λ d. omega (arith, positive));
  window = λ i b. at i b (cases_lt i (n - 1));
  under = λ i. small i (cases_order i last);
  most_is = sym (first_heights k n positive (omega (arith, e)));
  most_high = omega arith;
  most_low = omega arith;
  none = ap (λ z. any_below z (λ t. is_large (fold (suc k) (monomial whole_numbers t)))) e ∙ first_none k;
}
  where
    positive : 0 < n
    positive = omega (arith, e, degree_positive (suc k) (omega arith))

    less : n ≤ k
    less = omega (arith, e, degree_less k (omega arith))

    low : (i : ℕ) → i ≢ last → coeff whole_numbers row i ≡ pos 0
    low i d = ap (λ z. get_or z i (pos 0)) h ∙ get_or-set_other (replicate (suc k) (pos 0)) last i (pos 1) (pos 0) d ∙ coeff-none whole_ring (suc k) i

    top : coeff whole_numbers row last ≡ pos 1
    top = ap (λ z. get_or z last (pos 0)) h ∙ get_or-set_same (replicate (suc k) (pos 0)) last (pos 1) (pos 0) (omega (arith, length-replicate (suc k) (pos 0)))

    at : (i : ℕ) → i < degree (suc k) → (i < n - 1) ⊎ (n - 1 ≤ i) → coeff whole_numbers row (suc k - n + i) ≡ coeff whole_numbers (fold (suc k) (monomial whole_numbers (n - 1))) i
    at i b (inl a) = low (suc k - n + i) (λ d. omega (arith, less, e, b, a)) ∙ sym (coeff-monomial whole_ring (n - 1) i ∙ shifted_low whole_ring (n - 1) (const whole_numbers (pos 1)) i a) ∙ sym (short_power k (n - 1) (omega (arith, e, positive)) i)
    at i b (inr a) = ap (coeff whole_numbers row) (let d : suc k - n + i ≡ last = omega (arith, less, e, b, positive) in d) ∙ top ∙ sym (monomial_top (n - 1)) ∙ sym (short_power k (n - 1) (omega (arith, e, positive)) (n - 1)) ∙ ap (coeff whole_numbers (fold (suc k) (monomial whole_numbers (n - 1)))) (let d : n - 1 ≡ i = omega (arith, e, b) in d)

    small : (i : ℕ) → (i ≡ last) ⊎ ((i < last) ⊎ (last < i)) → nat_abs (coeff whole_numbers row i) ≤ 1
    small i (inl d) = subst (λ z. nat_abs z ≤ 1) (sym (ap (coeff whole_numbers row) d ∙ top)) (omega arith)
    small i (inr (inl a)) = subst (λ z. nat_abs z ≤ 1) (sym (low i (λ d. omega arith))) (omega arith)
    small i (inr (inr a)) = subst (λ z. nat_abs z ≤ 1) (sym (low i (λ d. omega arith))) (omega arith)

-- the remainder of X f out of that of f
next_at : (m t : ℕ) (i : ℕ) → 1 < m → i < degree m → coeff whole_numbers (fold m (monomial whole_numbers (suc t))) i ≡ coeff whole_numbers (pos 0 ∷ fold m (monomial whole_numbers t)) i +ℤ neg_ℤ (coeff whole_numbers (pos 0 ∷ fold m (monomial whole_numbers t)) (degree m)) *ℤ coeff whole_numbers (phi m) i
next_at m t i l b = ap (λ z. coeff whole_numbers z i) (remainder_cons whole_numbers (phi m) (pos 0) (monomial whole_numbers t)) ∙ get_or-take (degree m) (plus whole_numbers w (scaled whole_numbers minus (phi m))) i (pos 0) b ∙ coeff-plus whole_ring w (scaled whole_numbers minus (phi m)) i ∙ ap (λ z. coeff whole_numbers w i +ℤ z) (coeff-scaled whole_ring minus (phi m) i)
  where
    w : List ℤ
    w = pos 0 ∷ fold m (monomial whole_numbers t)

    minus : ℤ
    minus = neg_ℤ (coeff whole_numbers w (degree m))

module _ (m t from n : ℕ) (g row new : List ℤ) (most : ℕ) (low : 1 < m) (from_is : from + 1 + t ≡ m) (positive : 0 < t) (g_is : g ≡ phi m) (n_is : n ≡ degree m) (P : Powers m t row most) (L : IsLowered g (coeff whole_numbers row (from + n)) from n row new) where
  row_at : (i : ℕ) → i ≤ n → coeff whole_numbers row (from + i) ≡ coeff whole_numbers (pos 0 ∷ fold m (monomial whole_numbers (t - 1))) i
  row_at zero b = P.blank (from + 0) (omega arith)
  row_at (suc i) b = ap (coeff whole_numbers row) (let d : from + suc i ≡ m - t + i = omega arith in d) ∙ P.window i (omega (arith, n_is))

  new_at : (i : ℕ) → i < n → coeff whole_numbers new (from + i) ≡ coeff whole_numbers (fold m (monomial whole_numbers t)) i
  new_at i b = L.within i b ∙ ap₂ (λ y z. y +ℤ neg_ℤ z *ℤ coeff whole_numbers g i) (row_at i (omega arith)) (row_at n (omega arith)) ∙ ap (λ z. coeff whole_numbers (pos 0 ∷ fold m (monomial whole_numbers (t - 1))) i +ℤ neg_ℤ (coeff whole_numbers (pos 0 ∷ fold m (monomial whole_numbers (t - 1))) n) *ℤ coeff whole_numbers z i) g_is ∙ ap (λ z. coeff whole_numbers (pos 0 ∷ fold m (monomial whole_numbers (t - 1))) i +ℤ neg_ℤ (coeff whole_numbers (pos 0 ∷ fold m (monomial whole_numbers (t - 1))) z) *ℤ coeff whole_numbers (phi m) i) n_is ∙ sym (next_at m (t - 1) i low (omega (arith, n_is))) ∙ ap (λ z. coeff whole_numbers (fold m (monomial whole_numbers z)) i) (let d : suc (t - 1) ≡ t = omega arith in d)

  new_height : height_from new from n ≡ row_height (fold m (monomial whole_numbers t)) (degree m)
  new_height = greatest_cong n (λ i. nat_abs (coeff whole_numbers new (from + i))) (λ i. nat_abs (coeff whole_numbers (fold m (monomial whole_numbers t)) i)) (λ i b. ap nat_abs (new_at i b)) ∙ ap (row_height (fold m (monomial whole_numbers t))) n_is

  pub powers_next : (u next : ℕ) → u ≡ t + 1 → next ≡ max most (height_from new from n) → next < 2 ^ 31 → length new ≡ length row → Powers m u new next
  powers_next u next e h small same = record {
    long = same ∙ P.long;
    blank = λ i b. L.before i (omega arith) ∙ P.blank i (omega arith);
    window = λ i b. ap (coeff whole_numbers new) (let d : m - u + i ≡ from + i = omega arith in d) ∙ new_at i (omega (arith, n_is)) ∙ ap (λ z. coeff whole_numbers (fold m (monomial whole_numbers z)) i) (let d : t ≡ u - 1 = omega arith in d);
    under = λ i. bound i (cases_lt i from) (cases_lt i (from + n));
    most_is = h ∙ ap₂ max P.most_is new_height ∙ ap (λ z. total greatest z (λ t. row_height (fold m (monomial whole_numbers t)) (degree m))) (let d : suc t ≡ u = omega arith in d);
    most_high = small;
    most_low = omega (arith, h, P.most_low);
    none = any_more t u (λ t. is_large (fold m (monomial whole_numbers t))) (omega arith) P.none (small_not_large (fold m (monomial whole_numbers t)) (small_row (fold m (monomial whole_numbers t)) (degree m) (omega (arith, length-remainder whole_numbers (phi m) (monomial whole_numbers t))) (omega (arith, small, h, new_height))));
  }
    where
      bound : (i : ℕ) → (i < from) ⊎ (from ≤ i) → (i < from + n) ⊎ (from + n ≤ i) → nat_abs (coeff whole_numbers new i) ≤ next
      bound i (inl a) b = subst (λ z. nat_abs z ≤ next) (sym (L.before i a)) (omega (arith, P.under i, h))
      bound i (inr a) (inr b) = subst (λ z. nat_abs z ≤ next) (sym (L.after i b)) (omega (arith, P.under i, h))
      bound i (inr a) (inl b) = subst (λ z. nat_abs (coeff whole_numbers new z) ≤ next) (let d : from + (i - from) ≡ i = omega arith in d) (omega (arith, greatest_le n (i - from) (λ j. nat_abs (coeff whole_numbers new (from + j))) (omega arith), h))

  pub powers_large : (next : ℕ) → next ≡ max most (height_from new from n) → 2 ^ 31 ≤ next → has_large_power m ≡ true
  powers_large next h large = any_at m t (λ t. is_large (fold m (monomial whole_numbers t))) (omega arith) (large_row (fold m (monomial whole_numbers t)) (degree m) (omega (arith, large, h, P.most_high, new_height)))

pub powers_height : (m t : ℕ) (row : List ℤ) (most : ℕ) → t ≡ m → Powers m t row most → most ≡ height m
unfolding height
powers_height m t row most e P = P.most_is ∙ ap (λ z. total greatest z (λ t. row_height (fold m (monomial whole_numbers t)) (degree m))) e

pub powers_none : (m t : ℕ) (row : List ℤ) (most : ℕ) → t ≡ m → Powers m t row most → has_large_power m ≡ false
powers_none m t row most e P = ap (λ z. any_below z (λ t. is_large (fold m (monomial whole_numbers t)))) (sym e) ∙ P.none

-- a slice that was the whole list
pub whole_slice : {X : Type 0} (s r : List X) (n : ℕ) → length s ≡ length r → n ≡ length r → take n (s ++ drop (length s) r) ≡ s
whole_slice s r n e h = ap₂ (λ k z. take k (s ++ z)) (h ∙ sym e) (drop_all (length s) r (omega (arith, e))) ∙ ap (take (length s)) (append-nil s) ∙ take_all (length s) s (omega arith)

pub powers_bounds : (m : ℕ) → 1 < m → (0 < degree m) × (degree m < m)
powers_bounds zero l = absurd (omega arith)
powers_bounds (suc k) l = (degree_positive (suc k) (omega arith), omega (arith, degree_less k (omega arith)))

pub member_bounds : (m : ℕ) (g : List ℤ) → 1 < m → g ≡ phi m → (1 < length g) × (length g ≤ m)
member_bounds m g l e = at (length g) (degree m) (ap (λ z. length z - 1) e) (powers_bounds m l)
  where
    at : (n d : ℕ) → n - 1 ≡ d → (0 < d) × (d < m) → (1 < n) × (n ≤ m)
    at n d h b = (omega (arith, h, b), omega (arith, h, b))
