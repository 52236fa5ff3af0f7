-- Indices and their numbers.
use Rattle.std.specs.Prelude.{◌≡◌, ℕ, zero, suc, ◌+◌, ◌-◌, ◌*◌, ◌/◌, ◌%◌, ◌^◌, ◌<◌, ◌≤◌, List, [], ◌∷◌, length, get_or, map, set, drop, refl}
use Rattle.std.specs.List.{All}
use Rattle.std.proofs.Common.{arith, sym, ◌∙◌, ap, ap₂, subst, mod-eq_of_lt, mul-pos, mod-lt}
use Rattle.std.proofs.lemmas.Nat.{div-mul-add}
use Rattle.std.proofs.Math.Nat.{zero-div, mul-add-div_right, mul-add-mod_self_right, pow-zero}
use Rattle.std.proofs.Math.Arith.{mod-mul}
use Rattle.hyper_cube.specs.Torus.{Dimension, count, place, index, indices, generated}
use Rattle.hyper_cube.specs.Checks.{IsIndex}
use Rattle.algebra.specs.Whole.{below}
use Rattle.algebra.proofs.Sums.{length-below, get_or-below}
use Rattle.std.proofs.lemmas.List.{get_or-map, length-map}

-- a dimension that changes nothing
abbrev pub no_dimension : Dimension
no_dimension = record { generator = 1; size = 1 }

-- all sizes are above 0
abbrev pub ArePositive : List Dimension → Type 0
ArePositive Ds = All (λ D. 0 < D.size) Ds

pub positive_first : (D : Dimension) (Ds : List Dimension) → ArePositive (D ∷ Ds) → 0 < D.size
positive_first D Ds h = h 0 D (omega arith)

pub positive_rest : (D : Dimension) (Ds : List Dimension) → ArePositive (D ∷ Ds) → ArePositive Ds
positive_rest D Ds h = λ i d l. h (suc i) d (omega arith)

pub count_positive : (Ds : List Dimension) → ArePositive Ds → 0 < count Ds
count_positive [] h = omega arith
count_positive (D ∷ Ds) h = mul-pos (positive_first D Ds h) (count_positive Ds (positive_rest D Ds h))

pub length-index : (Ds : List Dimension) (k : ℕ) → length (index Ds k) ≡ length Ds
length-index [] k = refl
length-index (D ∷ Ds) k = ap suc (length-index Ds k)

-- coordinate i of the index with number k
pub get_or-index : (Ds : List Dimension) (k i : ℕ) → i < length Ds → get_or (index Ds k) i 0 ≡ (k / count (drop (suc i) Ds)) % (get_or Ds i no_dimension).size
get_or-index [] k i l = absurd (omega arith)
get_or-index (D ∷ Ds) k zero l = refl
get_or-index (D ∷ Ds) k (suc i) l = get_or-index Ds k i (omega arith)

-- multiples of the count change nothing
pub index_again : (Ds : List Dimension) (a k : ℕ) → ArePositive Ds → index Ds (a * count Ds + k) ≡ index Ds k
index_again [] a k h = refl
index_again (D ∷ Ds) a k h = ap₂ (λ i e. i ∷ e) first (ap (index Ds) turn ∙ index_again Ds (a * D.size) k (positive_rest D Ds h))
  where
    turn : a * (D.size * count Ds) + k ≡ (a * D.size) * count Ds + k
    turn = omega arith

    first : ((a * (D.size * count Ds) + k) / count Ds) % D.size ≡ (k / count Ds) % D.size
    first = ap (λ z. (z / count Ds) % D.size) turn ∙ ap (λ z. z % D.size) (mul-add-div_right (count_positive Ds (positive_rest D Ds h)) (a * D.size) k) ∙ mul-add-mod_self_right a D.size (k / count Ds)

-- each coordinate is below its size
pub index_in : (Ds : List Dimension) (k : ℕ) → ArePositive Ds → IsIndex Ds (index Ds k)
index_in [] k h = tt
index_in (D ∷ Ds) k h = (mod-lt (k / count Ds) (positive_first D Ds h), index_in Ds k (positive_rest D Ds h))

-- the number of an index is below the count
pub place_in : (Ds : List Dimension) (e : List ℕ) → IsIndex Ds e → place Ds e < count Ds
place_in [] [] h = omega arith
place_in [] (i ∷ e) h = absurd h
place_in (D ∷ Ds) [] h = absurd h
place_in (D ∷ Ds) (i ∷ e) h = fits i D.size (count Ds) (place Ds e) h.0 (place_in Ds e h.1)
  where
    fits : (i s c r : ℕ) → i < s → r < c → i * c + r < s * c
    fits i s c r l m = go (s - suc i) (omega arith)
      where
        go : (t : ℕ) → s ≡ suc i + t → i * c + r < s * c
        go t e = omega (arith, m, ap (λ z. z * c) e)

-- the index with the number of e is e
pub index_place : (Ds : List Dimension) (e : List ℕ) → ArePositive Ds → IsIndex Ds e → index Ds (place Ds e) ≡ e
index_place [] [] p h = refl
index_place [] (i ∷ e) p h = absurd h
index_place (D ∷ Ds) [] p h = absurd h
index_place (D ∷ Ds) (i ∷ e) p h = ap₂ (λ j f. j ∷ f) first (index_again Ds i (place Ds e) (positive_rest D Ds p) ∙ index_place Ds e (positive_rest D Ds p) h.1)
  where
    first : ((i * count Ds + place Ds e) / count Ds) % D.size ≡ i
    first = ap (λ z. z % D.size) (div-mul-add i (count Ds) (place Ds e) (place_in Ds e h.1)) ∙ mod-eq_of_lt h.0

-- the number of the index with number k is k, up to multiples of the count
place_index_mod : (Ds : List Dimension) (k : ℕ) → ArePositive Ds → place Ds (index Ds k) ≡ k % count Ds
place_index_mod [] k p = sym (mod-one k)
  where
    mod-one : (k : ℕ) → k % 1 ≡ 0
    mod-one k = omega arith
place_index_mod (D ∷ Ds) k p = ap (λ z. ((k / count Ds) % D.size) * count Ds + z) (place_index_mod Ds k (positive_rest D Ds p)) ∙ sym (mod-mul k (positive_first D Ds p) (count_positive Ds (positive_rest D Ds p)))

pub place_index : (Ds : List Dimension) (k : ℕ) → ArePositive Ds → k < count Ds → place Ds (index Ds k) ≡ k
place_index Ds k p l = place_index_mod Ds k p ∙ mod-eq_of_lt l

-- another number at place i
pub place-set : (Ds : List Dimension) (e : List ℕ) (i v : ℕ) → length e ≡ length Ds → i < length Ds → place Ds (set e i v) + get_or e i 0 * count (drop (suc i) Ds) ≡ place Ds e + v * count (drop (suc i) Ds)
place-set [] e i v h l = absurd (omega arith)
place-set (D ∷ Ds) [] i v h l = absurd (omega arith)
place-set (D ∷ Ds) (x ∷ e) zero v h l = omega arith
place-set (D ∷ Ds) (x ∷ e) (suc i) v h l = omega (arith, place-set Ds e i v (omega arith) (omega arith))

pub index-set : (Ds : List Dimension) (e : List ℕ) (i v : ℕ) → IsIndex Ds e → i < length Ds → v < (get_or Ds i no_dimension).size → IsIndex Ds (set e i v)
index-set [] e i v h l m = absurd (omega arith)
index-set (D ∷ Ds) [] i v h l m = absurd h
index-set (D ∷ Ds) (x ∷ e) zero v h l m = (m, h.1)
index-set (D ∷ Ds) (x ∷ e) (suc i) v h l m = (h.0, index-set Ds e i v h.1 (omega arith) m)

-- the counts of the later dimensions divide the count
pub count_rest : (Ds : List Dimension) (i : ℕ) → ArePositive Ds → count (drop i Ds) ≤ count Ds
count_rest [] zero h = omega arith
count_rest [] (suc i) h = omega arith
count_rest (D ∷ Ds) zero h = omega arith
count_rest (D ∷ Ds) (suc i) h = grows D.size (count Ds) (positive_first D Ds h) (count_rest Ds i (positive_rest D Ds h))
  where
    grows : (s c : ℕ) {r : ℕ} → 0 < s → r ≤ c → r ≤ s * c
    grows zero c p l = absurd (omega arith)
    grows (suc s) c p l = omega (arith, l)

-- the product at slot 0 is 1
pub generated_first : (Ds : List Dimension) → ArePositive Ds → generated Ds (index Ds 0) ≡ 1
generated_first [] h = refl
generated_first (D ∷ Ds) h = ap₂ (λ x y. x * y) (ap (λ z. D.generator ^ z) (ap (λ z. z % D.size) (zero-div (count Ds)) ∙ mod-eq_of_lt (positive_first D Ds h)) ∙ pow-zero D.generator) (generated_first Ds (positive_rest D Ds h))

-- ---- all indices
pub length-indices : (Ds : List Dimension) → length (indices Ds) ≡ count Ds
length-indices Ds = length-map (below (count Ds)) (index Ds) ∙ length-below (count Ds)

pub get_or-indices : (Ds : List Dimension) (k : ℕ) (d : List ℕ) → k < count Ds → get_or (indices Ds) k d ≡ index Ds k
get_or-indices Ds k d l = get_or-map (index Ds) (below (count Ds)) k 0 d (omega (arith, length-below (count Ds))) ∙ ap (index Ds) (get_or-below (count Ds) k 0 l)

pub all_indices : (Ds : List Dimension) → ArePositive Ds → All (IsIndex Ds) (indices Ds)
all_indices Ds p k d l = subst (IsIndex Ds) (sym (get_or-indices Ds k d (omega (arith, length-indices Ds)))) (index_in Ds k p)

-- a list with an entry for each index has that of e at the number of e
pub get_or-map-indices : {Y : Type 0} (f : List ℕ → Y) (Ds : List Dimension) (e : List ℕ) (d : Y) → ArePositive Ds → IsIndex Ds e → get_or (map f (indices Ds)) (place Ds e) d ≡ f e
get_or-map-indices f Ds e d p h = get_or-map f (indices Ds) (place Ds e) [] d (omega (arith, length-indices Ds, place_in Ds e h)) ∙ ap f (get_or-indices Ds (place Ds e) [] (place_in Ds e h) ∙ index_place Ds e p h)
