-- Dimensions out of pairs of generator and size, from the last one on.
use Rattle.std.specs.Prelude.{◌≡◌, ℕ, zero, suc, ◌+◌, ◌-◌, ◌*◌, ◌/◌, ◌%◌, ◌^◌, ◌<◌, ◌≤◌, List, [], ◌∷◌, ◌++◌, length, get_or, take, drop, refl}
use Rattle.std.specs.List.{All}
use Rattle.std.proofs.Common.{arith, sym, ◌∙◌, ap, ap₂, subst}
use Rattle.std.proofs.lemmas.Nat.{mul-mod_first, mul-mod_second}
use Rattle.std.proofs.lemmas.List.{get_or-map, length-map, length-drop, drop-map, map-append}
use Rattle.std.proofs.Math.Seq.{drop-cons, take-suc, take-length}
use Rattle.hyper_cube.specs.Torus.{Dimension, count, index, generated}
use Rattle.hyper_cube.specs.Checks.{dimensions_of}
use Rattle.hyper_cube.specs.Tables.{IsFilled}
use Rattle.hyper_cube.specs.Axes.{dimensions_held, strides_held}
use Rattle.hyper_cube.specs.declared.tables.Axis.{Axis}
use Rattle.hyper_cube.proofs.Indices.{no_dimension, ArePositive, count_positive, count_rest, positive_rest}
use Rattle.hyper_cube.proofs.Tabled.{filled_more}

abbrev pub dimension_of : ℕ × ℕ → Dimension
dimension_of pair = record { generator = pair.0; size = pair.1 }

module _ (gs : List (ℕ × ℕ)) where
  pub length-dims : length (dimensions_of gs) ≡ length gs
  length-dims = length-map gs dimension_of

  pub dim_at : (j : ℕ) → j < length gs → get_or (dimensions_of gs) j no_dimension ≡ dimension_of (get_or gs j (0, 0))
  dim_at j l = get_or-map dimension_of gs j (0, 0) no_dimension l

  dims_from : (j : ℕ) → j < length gs → drop j (dimensions_of gs) ≡ dimension_of (get_or gs j (0, 0)) ∷ drop (suc j) (dimensions_of gs)
  dims_from j l = drop-cons (dimensions_of gs) j no_dimension (omega (arith, length-dims)) ∙ ap (λ D. D ∷ drop (suc j) (dimensions_of gs)) (dim_at j l)

  pub dims_positive : All (λ pair. 1 ≤ pair.1) gs → ArePositive (dimensions_of gs)
  dims_positive h k d l = subst (λ D. 0 < D.size) (sym (get_or-map dimension_of gs k (0, 0) d (omega (arith, length-dims)))) (h k (0, 0) (omega (arith, length-dims)))

  pub count_last : (i s : ℕ) → length gs ≤ i → s ≡ 1 → s ≡ count (drop i (dimensions_of gs))
  count_last i s l e = e ∙ sym (ap count (drop-none (dimensions_of gs) i (omega (arith, length-dims))))
    where
      drop-none : (Ds : List Dimension) (i : ℕ) → length Ds ≤ i → drop i Ds ≡ []
      drop-none [] zero l = refl
      drop-none [] (suc i) l = refl
      drop-none (D ∷ Ds) zero l = absurd (omega arith)
      drop-none (D ∷ Ds) (suc i) l = drop-none Ds i (omega arith)

  -- one dimension more in front
  pub count_more : (i j s : ℕ) → i ≡ suc j → j < length gs → s ≡ count (drop i (dimensions_of gs)) → s * (get_or gs j (0, 0)).1 ≡ count (drop j (dimensions_of gs))
  count_more i j s e l h = ap (λ z. z * (get_or gs j (0, 0)).1) (h ∙ ap (λ z. count (drop z (dimensions_of gs))) e) ∙ turn (count (drop (suc j) (dimensions_of gs))) (get_or gs j (0, 0)).1 ∙ sym (ap count (dims_from j l))
    where
      turn : (a b : ℕ) → a * b ≡ b * a
      turn a b = omega arith

  pub generated_more : (i j k m product stride power result : ℕ) → i ≡ suc j → j < length gs → product ≡ generated (drop i (dimensions_of gs)) (index (drop i (dimensions_of gs)) k) % m → stride ≡ count (drop i (dimensions_of gs)) → power ≡ (get_or gs j (0, 0)).0 ^ (k / stride % (get_or gs j (0, 0)).1) % m → result ≡ (product * power) % m → result ≡ generated (drop j (dimensions_of gs)) (index (drop j (dimensions_of gs)) k) % m
  generated_more i j k m product stride power result e l hp hs hw hr = hr ∙ ap₂ (λ y z. (y * z) % m) (hp ∙ ap (λ z. generated (drop z (dimensions_of gs)) (index (drop z (dimensions_of gs)) k) % m) e) (hw ∙ ap (λ z. (get_or gs j (0, 0)).0 ^ (k / z % (get_or gs j (0, 0)).1) % m) (hs ∙ ap (λ z. count (drop z (dimensions_of gs))) e)) ∙ mul-mod_first rest (first % m) m ∙ mul-mod_second rest first m ∙ ap (λ z. z % m) (turn rest first) ∙ sym (ap (λ Ds. generated Ds (index Ds k) % m) (dims_from j l))
    where
      rest : ℕ
      rest = generated (drop (suc j) (dimensions_of gs)) (index (drop (suc j) (dimensions_of gs)) k)

      first : ℕ
      first = (get_or gs j (0, 0)).0 ^ (k / count (drop (suc j) (dimensions_of gs)) % (get_or gs j (0, 0)).1)

      turn : (a b : ℕ) → a * b ≡ b * a
      turn a b = omega arith

  pub count_part : (i : ℕ) → All (λ pair. 1 ≤ pair.1) gs → count (drop i (dimensions_of gs)) ≤ count (dimensions_of gs)
  count_part i h = count_rest (dimensions_of gs) i (dims_positive h)

  pub count_part_positive : (i : ℕ) → All (λ pair. 1 ≤ pair.1) gs → 0 < count (drop i (dimensions_of gs))
  count_part_positive i h = positive (dimensions_of gs) i (dims_positive h)
    where
      positive : (Ds : List Dimension) (i : ℕ) → ArePositive Ds → 0 < count (drop i Ds)
      positive [] zero p = omega arith
      positive [] (suc i) p = omega arith
      positive (D ∷ Ds) zero p = count_positive (D ∷ Ds) p
      positive (D ∷ Ds) (suc i) p = positive Ds i (positive_rest D Ds p)

  -- the later pairs
  pub later_dims : (k : ℕ) → dimensions_of (take (length gs - k) (drop k gs)) ≡ drop k (dimensions_of gs)
  later_dims k = ap dimensions_of (ap (λ z. take z (drop k gs)) (sym (length-drop k gs)) ∙ take-length (drop k gs)) ∙ sym (drop-map dimension_of k gs)

  -- ---- one dimension more at the end
  pub held_more : (i : ℕ) (xs ys : List Axis) (x : Axis) → i < length gs → dimensions_held xs ≡ dimensions_of (take i gs) → ys ≡ xs ++ x ∷ [] → x.generator ≡ (get_or gs i (0, 0)).0 → x.size ≡ (get_or gs i (0, 0)).1 → dimensions_held ys ≡ dimensions_of (take (i + 1) gs)
  held_more i xs ys x l h e g s = ap dimensions_held e ∙ map-append (λ (axis : Axis). record { generator = axis.generator; size = axis.size }) xs (x ∷ []) ∙ ap₂ (λ y z. y ++ z ∷ []) h (ap₂ (λ y z. record { generator = y; size = z }) g s) ∙ sym (map-append dimension_of (take i gs) (get_or gs i (0, 0) ∷ [])) ∙ ap dimensions_of (sym (take-suc gs i (0, 0) l) ∙ ap (λ z. take z gs) (let q : suc i ≡ i + 1 = omega arith in q))

  pub strides_more : (i : ℕ) (xs ys : List Axis) (x : Axis) → IsFilled (λ i. count (drop (suc i) (dimensions_of gs))) i (strides_held xs) → ys ≡ xs ++ x ∷ [] → x.stride ≡ count (dimensions_of (take (length gs - (i + 1)) (drop (i + 1) gs))) → IsFilled (λ i. count (drop (suc i) (dimensions_of gs))) (i + 1) (strides_held ys)
  strides_more i xs ys x h e s = filled_more (λ i. count (drop (suc i) (dimensions_of gs))) i x.stride (strides_held xs) (strides_held ys) h (ap strides_held e ∙ map-append (λ (axis : Axis). axis.stride) xs (x ∷ [])) (s ∙ ap count (later_dims (i + 1)) ∙ ap (λ z. count (drop z (dimensions_of gs))) (let q : i + 1 ≡ suc i = omega arith in q))
