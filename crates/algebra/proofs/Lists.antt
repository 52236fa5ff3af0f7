-- The coefficients of the lists that the operations on polynomials give, and their lengths.
use Rattle.std.specs.Prelude.{◌≡◌, ℕ, zero, suc, ◌+◌ as ◌+ₙ◌, ◌-◌ as ◌-ₙ◌, ◌*◌ as ◌*ₙ◌, ◌<◌, ◌≤◌, max, List, [], ◌∷◌, ◌++◌, length, replicate, refl}
use Rattle.std.proofs.Common.{arith, sym, ◌∙◌, ap, ap₂}
use Rattle.std.proofs.lemmas.List.{length-map, length-append, length-replicate, ext_get_or, get_or_past}
use mathlib.Core.Path.{fun_ext}
use Rattle.algebra.specs.Ring.{Ops, CommRing}
use Rattle.algebra.specs.Range.{total, adds}
use Rattle.algebra.specs.Series.{cons, const, product, shifted, spread, Below}
use Rattle.algebra.specs.Poly.{coeff, SameCoeffs, sum, plus, negated, scaled, times, monomial, at_power}
use Rattle.algebra.proofs.Basic.{add_zero, mul_zero, neg_zero}
use Rattle.algebra.proofs.Ranges.{total_first, add_laws}
use Rattle.algebra.proofs.SeriesRing.{product_head, product_tail, product_zeros, product_is}
use Rattle.algebra.proofs.Spread.{shifted_cong, spread_is, spread-zeros, spread-sum, spread-product}
use Rattle.algebra.proofs.Polynomials.{Poly, poly}

-- lists of one length with the same coefficients are equal
pub same_list : {C : Type 0} (o : Ops C) (f g : List C) → length f ≡ length g → SameCoeffs o f g → f ≡ g
same_list o f g e s = ext_get_or o.zero f g e (λ i l. s i)

pub Below-coeff : {C : Type 0} (o : Ops C) (f : List C) → Below o (length f) (coeff o f)
Below-coeff o f i l = get_or_past f i o.zero l

pub length-plus : {C : Type 0} (o : Ops C) (f g : List C) → length (plus o f g) ≡ max (length f) (length g)
length-plus o [] g = omega arith
length-plus o (a ∷ f) [] = omega arith
length-plus o (a ∷ f) (b ∷ g) = omega (arith, length-plus o f g)

pub length-times : {C : Type 0} (o : Ops C) (f g : List C) → 0 < length f → 0 < length g → length (times o f g) ≡ length f +ₙ length g -ₙ 1
unfolding times
length-times o [] g l m = absurd (omega arith)
length-times o (a ∷ []) g l m = omega (arith, length-plus o (scaled o a g) (o.zero ∷ []), length-map g (o.mul a))
length-times o (a ∷ b ∷ f) g l m = omega (arith, length-plus o (scaled o a g) (o.zero ∷ times o (b ∷ f) g), length-map g (o.mul a), length-times o (b ∷ f) g (omega arith) m)

-- a product has no coefficient from the sum of the lengths on
pub length-times-le : {C : Type 0} (o : Ops C) (f g : List C) → length (times o f g) ≤ length f +ₙ length g
unfolding times
length-times-le o [] g = omega arith
length-times-le o (a ∷ f) g = omega (arith, length-plus o (scaled o a g) (o.zero ∷ times o f g), length-map g (o.mul a), length-times-le o f g)

pub length-monomial : {C : Type 0} (o : Ops C) (k : ℕ) → length (monomial o k) ≡ suc k
length-monomial o k = omega (arith, length-append (replicate k o.zero) (o.one ∷ []), length-replicate k o.zero)

pub length-at_power : {C : Type 0} (o : Ops C) (k : ℕ) → 0 < k → (f : List C) → length (at_power o k f) ≡ length f *ₙ k
unfolding at_power
length-at_power o k p [] = omega arith
length-at_power o k p (a ∷ f) = omega (arith, length-append (replicate (k -ₙ 1) o.zero) (at_power o k f), length-replicate (k -ₙ 1) o.zero, length-at_power o k p f)

module _ (R : CommRing) where
  open R use {Carrier as C, ops as o, add as ◌+◌, mul as ◌*◌, neg as neg, zero as 𝟘, one as 𝟙}

  infixl 70 ◌+◌
  infixl 75 ◌*◌
  -- the polynomial of a list
  abbrev pub poly_of : List C → Poly o
  poly_of f = poly o (length f) (coeff o f) (Below-coeff o f)

  pub coeff-cons : (a : C) (f : List C) (i : ℕ) → coeff o (a ∷ f) i ≡ cons a (coeff o f) i
  coeff-cons a f zero = refl
  coeff-cons a f (suc i) = refl

  pub coeff-plus : (f g : List C) (i : ℕ) → coeff o (plus o f g) i ≡ coeff o f i + coeff o g i
  coeff-plus [] g i = sym (R.zero_add (coeff o g i))
  coeff-plus (a ∷ f) [] i = sym (add_zero R (coeff o (a ∷ f) i))
  coeff-plus (a ∷ f) (b ∷ g) zero = refl
  coeff-plus (a ∷ f) (b ∷ g) (suc i) = coeff-plus f g i

  pub coeff-negated : (f : List C) (i : ℕ) → coeff o (negated o f) i ≡ neg (coeff o f i)
  coeff-negated [] i = sym (neg_zero R)
  coeff-negated (a ∷ f) zero = refl
  coeff-negated (a ∷ f) (suc i) = coeff-negated f i

  pub coeff-scaled : (a : C) (f : List C) (i : ℕ) → coeff o (scaled o a f) i ≡ a * coeff o f i
  coeff-scaled a [] i = sym (mul_zero R a)
  coeff-scaled a (b ∷ f) zero = refl
  coeff-scaled a (b ∷ f) (suc i) = coeff-scaled a f i

  pub coeff-times : (f g : List C) (i : ℕ) → coeff o (times o f g) i ≡ product o (coeff o f) (coeff o g) i
  unfolding times
  coeff-times [] g i = sym (product_zeros R (coeff o g) i)
  coeff-times (a ∷ f) g zero = coeff-plus (scaled o a g) (𝟘 ∷ times o f g) zero ∙ add_zero R (coeff o (scaled o a g) zero) ∙ coeff-scaled a g zero ∙ sym (product_head R (coeff o (a ∷ f)) (coeff o g))
  coeff-times (a ∷ f) g (suc i) = coeff-plus (scaled o a g) (𝟘 ∷ times o f g) (suc i) ∙ ap₂ (λ y z. y + z) (coeff-scaled a g (suc i)) (coeff-times f g i) ∙ sym (product_tail R (coeff o (a ∷ f)) (coeff o g) i)

  -- each coefficient of a product is the sum of f j g (i - j) over j from 0 to i
  pub coeff-times_is : (f g : List C) (i : ℕ) → coeff o (times o f g) i ≡ total (adds o) (suc i) (λ j. coeff o f j * coeff o g (i -ₙ j))
  coeff-times_is f g i = coeff-times f g i ∙ product_is R (coeff o f) (coeff o g) i

  pub coeff-zeros : (k : ℕ) (f : List C) (i : ℕ) → coeff o (replicate k 𝟘 ++ f) i ≡ shifted o k (coeff o f) i
  coeff-zeros zero f i = refl
  coeff-zeros (suc k) f zero = refl
  coeff-zeros (suc k) f (suc i) = coeff-zeros k f i

  pub coeff-monomial : (k i : ℕ) → coeff o (monomial o k) i ≡ shifted o k (const o 𝟙) i
  coeff-monomial k i = coeff-zeros k (𝟙 ∷ []) i ∙ shifted_cong R k (coeff o (𝟙 ∷ [])) (const o 𝟙) (coeff-cons 𝟙 []) i

  pub coeff-at_power : (k : ℕ) → 0 < k → (f : List C) (i : ℕ) → coeff o (at_power o k f) i ≡ spread o k (coeff o f) i
  unfolding at_power
  coeff-at_power zero p f i = absurd (omega arith)
  coeff-at_power (suc k) p [] i = sym (spread-zeros R (suc k) p i)
  coeff-at_power (suc k) p (a ∷ f) i = head i ∙ ap (λ s. const o a i + shifted o (suc k) s i) (fun_ext (coeff-at_power (suc k) p f)) ∙ sym (spread_is R (suc k) p (coeff o (a ∷ f)) i)
    where
      down : (k : ℕ) → suc k -ₙ 1 ≡ k
      down k = omega arith

      head : (i : ℕ) → coeff o (a ∷ (replicate (suc k -ₙ 1) 𝟘 ++ at_power o (suc k) f)) i ≡ const o a i + shifted o (suc k) (coeff o (at_power o (suc k) f)) i
      head zero = sym (add_zero R a)
      head (suc i) = ap (λ n. coeff o (replicate n 𝟘 ++ at_power o (suc k) f) i) (down k) ∙ coeff-zeros k (at_power o (suc k) f) i ∙ sym (R.zero_add (shifted o k (coeff o (at_power o (suc k) f)) i))

  -- substitution keeps sums
  pub same-at_power-plus : (k : ℕ) → 0 < k → (f g : List C) → SameCoeffs o (at_power o k (plus o f g)) (plus o (at_power o k f) (at_power o k g))
  same-at_power-plus k p f g i = coeff-at_power k p (plus o f g) i ∙ ap (λ s. spread o k s i) (fun_ext (coeff-plus f g)) ∙ spread-sum R k p (coeff o f) (coeff o g) i ∙ ap₂ (λ y z. y + z) (sym (coeff-at_power k p f i)) (sym (coeff-at_power k p g i)) ∙ sym (coeff-plus (at_power o k f) (at_power o k g) i)

  -- substitution keeps products
  pub same-at_power-times : (k : ℕ) → 0 < k → (f g : List C) → SameCoeffs o (at_power o k (times o f g)) (times o (at_power o k f) (at_power o k g))
  same-at_power-times k p f g i = coeff-at_power k p (times o f g) i ∙ ap (λ s. spread o k s i) (fun_ext (coeff-times f g)) ∙ spread-product R k p (coeff o f) (coeff o g) i ∙ ap₂ (λ s t. product o s t i) (sym (fun_ext (coeff-at_power k p f))) (sym (fun_ext (coeff-at_power k p g))) ∙ sym (coeff-times (at_power o k f) (at_power o k g) i)

  -- a sum is the total of the coefficients
  pub sum_is : (f : List C) → sum o f ≡ total (adds o) (length f) (coeff o f)
  sum_is [] = refl
  sum_is (a ∷ f) = ap (λ z. a + z) (sum_is f) ∙ sym (total_first (adds o) (add_laws R) (length f) (coeff o (a ∷ f)))
