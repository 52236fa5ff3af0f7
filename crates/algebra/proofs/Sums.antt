-- Sums of lists, and the list of the numbers below n.
use Rattle.std.specs.Prelude.{◌≡◌, ℕ, zero, suc, ◌+◌ as ◌+ₙ◌, ◌<◌, List, [], ◌∷◌, ◌++◌, map, length, get_or, refl}
use Rattle.std.specs.List.{range_with_len}
use Rattle.std.proofs.Common.{arith, sym, ◌∙◌, ap, ap₂, map-id}
use Rattle.std.proofs.lemmas.List.{map-append}
use Rattle.std.proofs.lemmas.List.FromFn.{length-range_with_len, get_or-range_with_len, map-range_with_len_more}
use Rattle.algebra.specs.Ring.{CommRing}
use Rattle.algebra.specs.Range.{total, adds}
use Rattle.algebra.specs.Poly.{sum, scaled}
use Rattle.algebra.specs.Whole.{below}
use Rattle.algebra.proofs.Basic.{add_zero, zero_mul, mul_zero, mul_add}
use Rattle.algebra.proofs.Ranges.{swap, add_laws}

pub below_is : (n : ℕ) → below n ≡ range_with_len 0 n
below_is zero = refl
below_is (suc n) = ap (λ l. l ++ n ∷ []) (below_is n ∙ sym (map-id (range_with_len 0 n))) ∙ sym (map-range_with_len_more (λ i. i) 0 n n (omega arith)) ∙ map-id (range_with_len 0 (n +ₙ 1)) ∙ ap (range_with_len 0) (next n)
  where
    next : (n : ℕ) → n +ₙ 1 ≡ suc n
    next n = omega arith

pub length-below : (n : ℕ) → length (below n) ≡ n
length-below n = ap length (below_is n) ∙ length-range_with_len 0 n

pub get_or-below : (n i d : ℕ) → i < n → get_or (below n) i d ≡ i
get_or-below n i d l = ap (λ xs. get_or xs i d) (below_is n) ∙ get_or-range_with_len 0 n i d l ∙ none i
  where
    none : (i : ℕ) → 0 +ₙ i ≡ i
    none i = omega arith

module _ (R : CommRing) where
  open R use {Carrier as C, ops as o, add as ◌+◌, mul as ◌*◌, neg as neg, zero as 𝟘, one as 𝟙}

  infixl 70 ◌+◌
  infixl 75 ◌*◌
  pub sum-append : (f g : List C) → sum o (f ++ g) ≡ sum o f + sum o g
  sum-append [] g = sym (R.zero_add (sum o g))
  sum-append (a ∷ f) g = ap (λ z. a + z) (sum-append f g) ∙ sym (R.add_assoc a (sum o f) (sum o g))

  pub sum-scaled : (a : C) (f : List C) → sum o (scaled o a f) ≡ a * sum o f
  sum-scaled a [] = sym (mul_zero R a)
  sum-scaled a (b ∷ f) = ap (λ z. a * b + z) (sum-scaled a f) ∙ sym (mul_add R a b (sum o f))

  pub sum-mul : (f : List C) (a : C) → sum o f * a ≡ sum o (map (λ b. b * a) f)
  sum-mul [] a = zero_mul R a
  sum-mul (b ∷ f) a = R.add_mul b (sum o f) a ∙ ap (λ z. b * a + z) (sum-mul f a)

  pub sum-pointwise : {X : Type 0} (u v : X → C) (xs : List X) → sum o (map (λ x. u x + v x) xs) ≡ sum o (map u xs) + sum o (map v xs)
  sum-pointwise u v [] = sym (R.zero_add 𝟘)
  sum-pointwise u v (x ∷ xs) = ap (λ z. u x + v x + z) (sum-pointwise u v xs) ∙ swap (adds o) (add_laws R) (u x) (v x) (sum o (map u xs)) (sum o (map v xs))

  pub sum_zeros : {X : Type 0} (xs : List X) → sum o (map (λ x. 𝟘) xs) ≡ 𝟘
  sum_zeros [] = refl
  sum_zeros (x ∷ xs) = R.zero_add (sum o (map (λ x. 𝟘) xs)) ∙ sum_zeros xs

  -- a sum over two lists, in either order
  pub sum_exchange : {X Y : Type 0} (u : X → Y → C) (xs : List X) (ys : List Y) → sum o (map (λ x. sum o (map (u x) ys)) xs) ≡ sum o (map (λ y. sum o (map (λ x. u x y) xs)) ys)
  sum_exchange u [] ys = sym (sum_zeros ys)
  sum_exchange u (x ∷ xs) ys = ap (λ z. sum o (map (u x) ys) + z) (sum_exchange u xs ys) ∙ sym (sum-pointwise (u x) (λ y. sum o (map (λ x. u x y) xs)) ys)

  -- a sum over the numbers below n is the total
  pub sum_below : (n : ℕ) (f : ℕ → C) → sum o (map f (below n)) ≡ total (adds o) n f
  sum_below zero f = refl
  sum_below (suc n) f = ap (sum o) (map-append f (below n) (n ∷ [])) ∙ sum-append (map f (below n)) (f n ∷ []) ∙ ap₂ (λ y z. y + z) (sum_below n f) (add_zero R (f n))
