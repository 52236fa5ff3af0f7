-- One more place of a sum of lists, in a list that grows.
use Rattle.std.proofs.Common.{◌≡◌, ℕ, zero, suc, ◌+◌, ◌<◌, ◌≤◌, List, [], ◌∷◌, ◌++◌, length, map, take, get_or, refl, ap, ap₂, sym, ◌∙◌, add-one, arith}
use Rattle.std.proofs.Math.ListN.{set, get_or-map, length-take}
use Rattle.std.proofs.lemmas.List.{length-map, map-set, map-append, take_more}
use Rattle.algebra.specs.Ring.{Ops}
use Rattle.algebra.specs.Poly.{plus, scaled}

module _ {V : Type 0} (o : Ops V) where
  plus_nil : (s : List V) → plus o s [] ≡ s
  plus_nil [] = refl
  plus_nil (a ∷ s) = refl

  pub more_inside : (s f : List V) (i : ℕ) (v d e : V) → i < length s → i < length (plus o (take i s) f) → v ≡ o.add (get_or s i d) (get_or (plus o (take i s) f) i e) → set (plus o (take i s) f) i v ≡ plus o (take (suc i) s) f
  more_inside [] f i v d e in_s in_p h = absurd (omega arith)
  more_inside (a ∷ s) [] zero v d e in_s in_p h = absurd (omega arith)
  more_inside (a ∷ s) (b ∷ f) zero v d e in_s in_p h = ap (λ z. z ∷ f) h
  more_inside (a ∷ s) [] (suc i) v d e in_s in_p h = absurd (omega (arith, length-take i s))
  more_inside (a ∷ s) (b ∷ f) (suc i) v d e in_s in_p h = ap (λ z. o.add a b ∷ z) (more_inside s f i v d e (omega arith) (omega arith) h)

  pub more_past : (s f : List V) (i : ℕ) (d : V) → i < length s → length (plus o (take i s) f) ≤ i → plus o (take i s) f ++ get_or s i d ∷ [] ≡ plus o (take (suc i) s) f
  more_past [] f i d in_s in_p = absurd (omega arith)
  more_past (a ∷ s) [] zero d in_s in_p = refl
  more_past (a ∷ s) (b ∷ f) zero d in_s in_p = absurd (omega arith)
  more_past (a ∷ s) [] (suc i) d in_s in_p = ap (λ z. a ∷ z) (sym (take_more s i d (omega arith)) ∙ ap (λ n. take n s) (add-one i))
  more_past (a ∷ s) (b ∷ f) (suc i) d in_s in_p = ap (λ z. o.add a b ∷ z) (more_past s f i d (omega arith) (omega arith))

module _ {E V : Type 0} (value : E → V) (o : Ops V) (c : V) (g f : List E) (i : ℕ) where
  abbrev SoFar : List E → ℕ → Type 0
  SoFar xs n = map value xs ≡ plus o (take n (scaled o c (map value g))) (map value f)

  term : (x : E) → x ≡ get_or g i x → get_or (scaled o c (map value g)) i (o.mul c (value x)) ≡ o.mul c (value x)
  term x e = get_or-map (o.mul c) (map value g) i (value x) ∙ ap (o.mul c) (get_or-map value g i x ∙ ap value (sym e))

  pub sum_inside : (xs ys : List E) (x y p s : E) → ys ≡ set xs i s → SoFar xs i → i < length g → i < length xs → x ≡ get_or g i x → y ≡ get_or xs i y → value p ≡ o.mul c (value x) → value s ≡ o.add (value p) (value y) → SoFar ys (i + 1)
  sum_inside xs ys x y p s ys_is so_far in_g in_xs x_is y_is p_is s_is =
      ap (map value) ys_is ∙ map-set value xs i s ∙ ap (λ z. set z i (value s)) so_far ∙ more_inside o (scaled o c (map value g)) (map value f) i (value s) (o.mul c (value x)) (value y) in_terms in_sum the_sum ∙ ap (λ n. plus o (take n (scaled o c (map value g))) (map value f)) (sym (add-one i))
    where
      in_terms : i < length (scaled o c (map value g))
      in_terms = omega (arith, length-map (map value g) (o.mul c), length-map g value)

      in_sum : i < length (plus o (take i (scaled o c (map value g))) (map value f))
      in_sum = omega (arith, length-map xs value, ap length so_far)

      the_sum : value s ≡ o.add (get_or (scaled o c (map value g)) i (o.mul c (value x))) (get_or (plus o (take i (scaled o c (map value g))) (map value f)) i (value y))
      the_sum = s_is ∙ ap₂ o.add (p_is ∙ sym (term x x_is)) (ap value y_is ∙ sym (get_or-map value xs i y) ∙ ap (λ z. get_or z i (value y)) so_far)

  pub sum_past : (xs ys : List E) (x p : E) → ys ≡ xs ++ p ∷ [] → SoFar xs i → i < length g → length xs ≤ i → x ≡ get_or g i x → value p ≡ o.mul c (value x) → SoFar ys (i + 1)
  sum_past xs ys x p ys_is so_far in_g past x_is p_is =
      ap (map value) ys_is ∙ map-append value xs (p ∷ []) ∙ ap₂ (λ y z. y ++ z ∷ []) so_far (p_is ∙ sym (term x x_is)) ∙ more_past o (scaled o c (map value g)) (map value f) i (o.mul c (value x)) in_terms past_sum ∙ ap (λ n. plus o (take n (scaled o c (map value g))) (map value f)) (sym (add-one i))
    where
      in_terms : i < length (scaled o c (map value g))
      in_terms = omega (arith, length-map (map value g) (o.mul c), length-map g value)

      past_sum : length (plus o (take i (scaled o c (map value g))) (map value f)) ≤ i
      past_sum = omega (arith, length-map xs value, ap length so_far)
