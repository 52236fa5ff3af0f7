-- The list of the units modulo m: their number, their order, and that it has each of them.
use Rattle.std.specs.Prelude.{◌≡◌, ℕ, zero, suc, ◌+◌, ◌-◌, ◌*◌, ◌<◌, ◌≤◌, ◌⊎◌, Bool, true, false, cond, List, [], ◌∷◌, ◌++◌, length, get_or, refl}
use Rattle.std.proofs.Common.{sym, ◌∙◌, ap, subst, arith, inl, inr, eq-or-lt_of_le, length-append, append-nil, ap₂, le_trans, le_of_eq, lt_of_lt_of_le}
use Rattle.std.proofs.lemmas.Bool.{cases_Bool, cases_lt, cases_order}
use Rattle.std.proofs.Math.ListN.{get_or-append}
use Rattle.std.proofs.Math.Seq.{get_or-append_seam}
use Rattle.algebra.specs.Range.{total, counts}
use Rattle.algebra.specs.Divisor.{is_unit, UnitModulo, number_of_units, units_upto, units}
use Rattle.algebra.proofs.Units.{unit_of_test, unit_yes}

-- the last number is a unit, and stands at the end, or it is none
units_hit : (m n : ℕ) → is_unit m (suc n) ≡ true → units_upto m (suc n) ≡ units_upto m n ++ suc n ∷ []
unfolding units_upto
units_hit m n e = rw e

units_miss : (m n : ℕ) → is_unit m (suc n) ≡ false → units_upto m (suc n) ≡ units_upto m n
unfolding units_upto
units_miss m n e = rw e (append-nil (units_upto m n))

length-upto : (m n : ℕ) → length (units_upto m n) ≡ total counts n (λ t. cond (is_unit m (suc t)) 1 0)
unfolding units_upto
length-upto m zero = refl
length-upto m (suc n) = length-append (units_upto m n) (elim (is_unit m (suc n)) [ true ↦ suc n ∷ [] | false ↦ [] ]) ∙ ap₂ (λ y z. y + z) (length-upto m n) (at (is_unit m (suc n)))
  where
    at : (b : Bool) → length (elim b as (λ c. List ℕ) [ true ↦ suc n ∷ [] | false ↦ [] ]) ≡ cond b 1 0
    at true = refl
    at false = refl

pub length-units : (m : ℕ) → length (units m) ≡ number_of_units m
length-units m = length-upto m m

-- what stands at a place
record IsUnitUpto (m n u : ℕ) : Type 0 where
  positive : 0 < u
  low : u ≤ n
  unit : is_unit m u ≡ true

upto_at : (m n i : ℕ) → i < length (units_upto m n) → IsUnitUpto m n (get_or (units_upto m n) i 0)
upto_at m zero i l = absurd (none i l)
  where
    none : (i : ℕ) → i < length (units_upto m 0) → ⊥
    none i l = omega (arith, length-upto m 0)
upto_at m (suc n) i l = go (cases_Bool (is_unit m (suc n))) (upto_at m n i)
  where
    more : (u : ℕ) → IsUnitUpto m n u → IsUnitUpto m (suc n) u
    more u h = record { positive = h.positive; low = omega (arith, h.low); unit = h.unit }

    hit : is_unit m (suc n) ≡ true → (i < length (units_upto m n)) ⊎ (length (units_upto m n) ≤ i) → (i < length (units_upto m n) → IsUnitUpto m n (get_or (units_upto m n) i 0)) → IsUnitUpto m (suc n) (get_or (units_upto m (suc n)) i 0)
    hit e (inl s) r = subst (λ u. IsUnitUpto m (suc n) u) (sym (ap (λ f. get_or f i 0) (units_hit m n e) ∙ get_or-append (units_upto m n) (suc n ∷ []) 0 i s)) (more (get_or (units_upto m n) i 0) (r s))
    hit e (inr s) r = subst (λ u. IsUnitUpto m (suc n) u) (sym (ap (λ f. get_or f i 0) (units_hit m n e) ∙ ap (λ j. get_or (units_upto m n ++ suc n ∷ []) j 0) last ∙ get_or-append_seam (units_upto m n) (suc n) [] 0)) (record { positive = omega arith; low = omega arith; unit = e })
      where
        last : i ≡ length (units_upto m n)
        last = omega (arith, ap length (units_hit m n e), length-append (units_upto m n) (suc n ∷ []))

    go : (is_unit m (suc n) ≡ true) ⊎ (is_unit m (suc n) ≡ false) → (i < length (units_upto m n) → IsUnitUpto m n (get_or (units_upto m n) i 0)) → IsUnitUpto m (suc n) (get_or (units_upto m (suc n)) i 0)
    go (inl e) r = hit e (cases_lt i (length (units_upto m n))) r
    go (inr e) r = subst (λ f. IsUnitUpto m (suc n) (get_or f i 0)) (sym (units_miss m n e)) (more (get_or (units_upto m n) i 0) (r (omega (arith, ap length (units_miss m n e)))))

-- the units ascend
upto_ascend : (m n i j : ℕ) → i < j → j < length (units_upto m n) → get_or (units_upto m n) i 0 < get_or (units_upto m n) j 0
upto_ascend m zero i j s l = absurd (none j l)
  where
    none : (i : ℕ) → i < length (units_upto m 0) → ⊥
    none i l = omega (arith, length-upto m 0)
upto_ascend m (suc n) i j s l = go (cases_Bool (is_unit m (suc n))) (upto_ascend m n i j s)
  where
    Lower : List ℕ → Type 0
    Lower f = get_or f i 0 < get_or f j 0

    hit : is_unit m (suc n) ≡ true → (j < length (units_upto m n)) ⊎ (length (units_upto m n) ≤ j) → (j < length (units_upto m n) → Lower (units_upto m n)) → Lower (units_upto m (suc n))
    hit e (inl t) r = subst Lower (sym (units_hit m n e)) (omega (arith, r t, get_or-append (units_upto m n) (suc n ∷ []) 0 i (omega arith), get_or-append (units_upto m n) (suc n ∷ []) 0 j t))
    hit e (inr t) r = subst Lower (sym (units_hit m n e)) (omega (arith, (upto_at m n i low).low, get_or-append (units_upto m n) (suc n ∷ []) 0 i low, ap (λ k. get_or (units_upto m n ++ suc n ∷ []) k 0) last ∙ get_or-append_seam (units_upto m n) (suc n) [] 0))
      where
        last : j ≡ length (units_upto m n)
        last = omega (arith, ap length (units_hit m n e), length-append (units_upto m n) (suc n ∷ []))

        low : i < length (units_upto m n)
        low = omega (arith, last)

    go : (is_unit m (suc n) ≡ true) ⊎ (is_unit m (suc n) ≡ false) → (j < length (units_upto m n) → Lower (units_upto m n)) → Lower (units_upto m (suc n))
    go (inl e) r = hit e (cases_lt j (length (units_upto m n))) r
    go (inr e) r = subst Lower (sym (units_miss m n e)) (r (omega (arith, ap length (units_miss m n e))))

-- every unit has a place
upto_place : (m n u : ℕ) → 0 < u → u ≤ n → is_unit m u ≡ true → (i : ℕ) × (i < length (units_upto m n)) × (get_or (units_upto m n) i 0 ≡ u)
upto_place m zero u p l h = absurd (omega arith)
upto_place m (suc n) u p l h = go (eq-or-lt_of_le l) (λ s. upto_place m n u p s h)
  where
    Place : List ℕ → Type 0
    Place f = (i : ℕ) × (i < length f) × (get_or f i 0 ≡ u)

    last : u ≡ suc n → Place (units_upto m n ++ suc n ∷ [])
    last e = (length (units_upto m n), omega (arith, length-append (units_upto m n) (suc n ∷ [])), get_or-append_seam (units_upto m n) (suc n) [] 0 ∙ sym e)

    earlier : (is_unit m (suc n) ≡ true) ⊎ (is_unit m (suc n) ≡ false) → Place (units_upto m n) → Place (units_upto m (suc n))
    earlier (inl e) (i, s, f) = subst Place (sym (units_hit m n e)) (i, omega (arith, length-append (units_upto m n) (suc n ∷ [])), get_or-append (units_upto m n) (suc n ∷ []) 0 i s ∙ f)
    earlier (inr e) q = subst Place (sym (units_miss m n e)) q

    go : (u ≡ suc n) ⊎ (u < suc n) → (u ≤ n → Place (units_upto m n)) → Place (units_upto m (suc n))
    go (inl e) r = subst Place (sym (units_hit m n (subst (λ z. is_unit m z ≡ true) e h))) (last e)
    go (inr s) r = earlier (cases_Bool (is_unit m (suc n))) (r (omega arith))

-- later numbers leave the earlier places
upto_more : (m n d i : ℕ) → i < length (units_upto m n) → get_or (units_upto m (n + d)) i 0 ≡ get_or (units_upto m n) i 0
upto_more m n zero i l = ap (λ k. get_or (units_upto m k) i 0) (let e : n + 0 ≡ n = omega arith in e)
upto_more m n (suc d) i l = ap (λ k. get_or (units_upto m k) i 0) (let e : n + suc d ≡ suc (n + d) = omega arith in e) ∙ step (cases_Bool (is_unit m (suc (n + d)))) ∙ upto_more m n d i l
  where
    long : i < length (units_upto m (n + d))
    long = lt_of_lt_of_le l (longer d)
      where
        longer : (d : ℕ) → length (units_upto m n) ≤ length (units_upto m (n + d))
        longer zero = le_of_eq (ap (λ k. length (units_upto m k)) (let e : n ≡ n + 0 = omega arith in e))
        longer (suc d) = le_trans (longer d) (le_trans (grows (n + d)) (le_of_eq (ap (λ k. length (units_upto m k)) (let e : suc (n + d) ≡ n + suc d = omega arith in e))))
          where
            grows : (k : ℕ) → length (units_upto m k) ≤ length (units_upto m (suc k))
            grows k = omega (arith, length-upto m k, length-upto m (suc k))

    step : (is_unit m (suc (n + d)) ≡ true) ⊎ (is_unit m (suc (n + d)) ≡ false) → get_or (units_upto m (suc (n + d))) i 0 ≡ get_or (units_upto m (n + d)) i 0
    step (inl e) = ap (λ f. get_or f i 0) (units_hit m (n + d) e) ∙ get_or-append (units_upto m (n + d)) (suc (n + d) ∷ []) 0 i long
    step (inr e) = ap (λ f. get_or f i 0) (units_miss m (n + d) e)

-- a unit stands behind all smaller ones
upto_behind : (m n d : ℕ) → is_unit m (suc n) ≡ true → (length (units_upto m n) < length (units_upto m (suc n + d))) × (get_or (units_upto m (suc n + d)) (length (units_upto m n)) 0 ≡ suc n)
upto_behind m n d e = (lt_of_lt_of_le own (longer d), upto_more m (suc n) d (length (units_upto m n)) own ∙ ap (λ f. get_or f (length (units_upto m n)) 0) (units_hit m n e) ∙ get_or-append_seam (units_upto m n) (suc n) [] 0)
  where
    own : length (units_upto m n) < length (units_upto m (suc n))
    own = omega (arith, ap length (units_hit m n e), length-append (units_upto m n) (suc n ∷ []))

    longer : (d : ℕ) → length (units_upto m (suc n)) ≤ length (units_upto m (suc n + d))
    longer zero = le_of_eq (ap (λ k. length (units_upto m k)) (let e : suc n ≡ suc n + 0 = omega arith in e))
    longer (suc d) = le_trans (longer d) (le_trans (grows (suc n + d)) (le_of_eq (ap (λ k. length (units_upto m k)) (let e : suc (suc n + d) ≡ suc n + suc d = omega arith in e))))
      where
        grows : (k : ℕ) → length (units_upto m k) ≤ length (units_upto m (suc k))
        grows k = omega (arith, length-upto m k, length-upto m (suc k))

-- ---- the units modulo m
abbrev pub unit_at : ℕ → ℕ → ℕ
unit_at m i = get_or (units m) i 0

pub unit_positive : (m i : ℕ) → i < length (units m) → 0 < unit_at m i
unit_positive m i l = (upto_at m m i l).positive

pub unit_le : (m i : ℕ) → i < length (units m) → unit_at m i ≤ m
unit_le m i l = (upto_at m m i l).low

pub unit_is : (m i : ℕ) → 0 < m → i < length (units m) → UnitModulo m (unit_at m i)
unit_is m i p l = unit_of_test m (unit_at m i) p (unit_positive m i l) (upto_at m m i l).unit

pub units_ascend : (m i j : ℕ) → i < j → j < length (units m) → unit_at m i < unit_at m j
units_ascend m i j s l = upto_ascend m m i j s l

pub unit_place : (m u : ℕ) → 0 < m → 0 < u → u ≤ m → UnitModulo m u → (i : ℕ) × (i < length (units m)) × (unit_at m i ≡ u)
unit_place m u p q l h = upto_place m m u q l (unit_yes m u p h)

-- above 1, m itself is no unit
pub unit_lt : (m i : ℕ) → 1 < m → i < length (units m) → unit_at m i < m
unit_lt m i p l = go (eq-or-lt_of_le (unit_le m i l))
  where
    go : (unit_at m i ≡ m) ⊎ (unit_at m i < m) → unit_at m i < m
    go (inr s) = s
    go (inl e) = absurd (omega (arith, unit_is m i (omega arith) l m (1, let o : unit_at m i ≡ 1 * m = omega arith in o) (1, let o : m ≡ 1 * m = omega arith in o)))

-- the units below a unit are as many as its place
pub unit_index : (m i : ℕ) → i < length (units m) → length (units_upto m (unit_at m i - 1)) ≡ i
unit_index m i l = at (unit_at m i) refl
  where
    at : (u : ℕ) → unit_at m i ≡ u → length (units_upto m (u - 1)) ≡ i
    at zero e = absurd (omega (arith, unit_positive m i l))
    at (suc n) e = ap (λ k. length (units_upto m k)) (let o : suc n - 1 ≡ n = omega arith in o) ∙ go (cases_order (length (units_upto m n)) i)
      where
        fill : m ≡ suc n + (m - suc n)
        fill = omega (arith, unit_le m i l)

        behind : (length (units_upto m n) < length (units m)) × (unit_at m (length (units_upto m n)) ≡ suc n)
        behind = subst (λ k. (length (units_upto m n) < length (units_upto m k)) × (get_or (units_upto m k) (length (units_upto m n)) 0 ≡ suc n)) (sym fill) (upto_behind m n (m - suc n) (subst (λ u. is_unit m u ≡ true) e (upto_at m m i l).unit))

        go : (length (units_upto m n) ≡ i) ⊎ ((length (units_upto m n) < i) ⊎ (i < length (units_upto m n))) → length (units_upto m n) ≡ i
        go (inl s) = s
        go (inr (inl s)) = absurd (omega (arith, units_ascend m (length (units_upto m n)) i s l, behind.1, e))
        go (inr (inr s)) = absurd (omega (arith, units_ascend m i (length (units_upto m n)) s behind.0, behind.1, e))
