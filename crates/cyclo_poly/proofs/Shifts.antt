-- Sums with a stride are products with X^j - 1, seen from the top: so the passes of `fold` give the remainder by Phi_m.
use Rattle.std.specs.Prelude.{◌≡◌, ℕ, zero, suc, ◌+◌, ◌%◌, ◌<◌, ◌≤◌, List, [], ◌∷◌, length, get_or, ℤ, pos, ◌+ℤ◌, neg_ℤ, refl}
use Rattle.std.specs.List.{All}
use Rattle.std.proofs.Common.{sym, ◌∙◌, ap, ap₂, subst, arith}
use Rattle.std.proofs.lemmas.List.{get_or_past}
use mathlib.Core.Path.{fun_ext}
use Rattle.algebra.specs.Ring.{whole_numbers, residues}
use Rattle.algebra.specs.Power.{less}
use Rattle.algebra.specs.Series.{Series, const, negated, product, shifted, Below, Monic}
use Rattle.algebra.specs.Poly.{coeff, monomial, negated as negated_list}
use Rattle.algebra.specs.Whole.{residue}
use Rattle.algebra.proofs.Basic.{add_zero, add_neg, neg_mul}
use Rattle.algebra.proofs.Integers.{whole_ring}
use Rattle.algebra.proofs.SeriesRing.{series_ring, product-sum, product-const, product_assoc}
use Rattle.algebra.proofs.Degrees.{Below-more, Below-product, Monic_product, Monic-one}
use Rattle.algebra.proofs.Spread.{shifted_high, product-shifted}
use Rattle.algebra.proofs.Lists.{coeff-plus, coeff-negated, coeff-monomial, coeff-times, coeff-cons}
use Rattle.algebra.proofs.Dividing.{monic_series}
use Rattle.algebra.proofs.WholeResidues.{residue-add, residue-neg}
use Rattle.cyclotomic.specs.Cyclotomic.{power_less_one, phi, degree}
use Rattle.cyclotomic.proofs.PhiLists.{monic_degree, phi_monic, as_poly-minus}
use Rattle.cyclotomic.proofs.WholePolys.{Monic-minus}
use Rattle.cyclo_poly.specs.Strides.{strided, AreStrides, less_next, less_all, IsLess}

abbrev pub Whole : Type 0
Whole = Series ℤ

-- the coefficients of X^j - 1
abbrev pub binomial : ℕ → Whole
binomial j = coeff whole_numbers (power_less_one j)

binomial_is : (j i : ℕ) → binomial j i ≡ less whole_numbers (shifted whole_numbers j (const whole_numbers (pos 1)) i) (const whole_numbers (pos 1) i)
binomial_is j i = coeff-plus whole_ring (monomial whole_numbers j) (negated_list whole_numbers (pos 1 ∷ [])) i ∙ ap₂ (λ y z. y +ℤ z) (coeff-monomial whole_ring j i) (coeff-negated whole_ring (pos 1 ∷ []) i ∙ ap neg_ℤ (coeff-cons whole_ring (pos 1) [] i))

one_product : (f : Whole) (i : ℕ) → product whole_numbers (const whole_numbers (pos 1)) f i ≡ f i
one_product f i = product-const whole_ring (pos 1) f i ∙ whole_ring.one_mul (f i)

-- (X^j - 1) f has at i + j the difference of f at i and at i + j
pub product-binomial : (j : ℕ) (f : Whole) (i : ℕ) → product whole_numbers (binomial j) f (i + j) ≡ less_next j f i
product-binomial j f i = ap (λ b. product whole_numbers b f (i + j)) (fun_ext (binomial_is j)) ∙ product-sum whole_ring (shifted whole_numbers j one) (negated whole_numbers one) f (i + j) ∙ ap₂ (λ y z. y +ℤ z) high (ap (λ h. h (i + j)) (neg_mul (series_ring whole_ring) one f) ∙ ap neg_ℤ (one_product f (i + j)))
  where
    one : Whole
    one = const whole_numbers (pos 1)

    high : product whole_numbers (shifted whole_numbers j one) f (i + j) ≡ f i
    high = product-shifted whole_ring j one f (i + j) ∙ (let e : i + j ≡ j + i = omega arith in ap (shifted whole_numbers j (product whole_numbers one f)) e) ∙ shifted_high whole_ring j (product whole_numbers one f) i ∙ one_product f i

-- the coefficients of g f from e on
abbrev pub from_top : Whole → ℕ → Whole → Whole
from_top g e f i = product whole_numbers g f (i + e)

next_from_top : (j : ℕ) (g : Whole) (e : ℕ) (f : Whole) (i : ℕ) → less_next j (from_top g e f) i ≡ from_top (product whole_numbers (binomial j) g) (e + j) f i
next_from_top j g e f i = ap (λ z. less whole_numbers (product whole_numbers g f (i + e)) (product whole_numbers g f z)) (over i j e) ∙ sym (product-binomial j (product whole_numbers g f) (i + e)) ∙ ap (product whole_numbers (binomial j) (product whole_numbers g f)) (last i j e) ∙ sym (product_assoc whole_ring (binomial j) g f (i + (e + j)))
  where
    over : (i j e : ℕ) → i + j + e ≡ i + e + j
    over i j e = omega arith

    last : (i j e : ℕ) → i + e + j ≡ i + (e + j)
    last i j e = omega arith

-- g times X^j - 1 for each stride
abbrev pub wprod : List ℕ → Whole → Whole
wprod [] g = g
wprod (j ∷ js) g = product whole_numbers (binomial j) (wprod js g)

abbrev pub stride_sum : List ℕ → ℕ
stride_sum [] = 0
stride_sum (j ∷ js) = stride_sum js + j

pub all_from_top : (js : List ℕ) (g : Whole) (e : ℕ) (f : Whole) (i : ℕ) → less_all js (from_top g e f) i ≡ from_top (wprod js g) (e + stride_sum js) f i
unfolding less_all
all_from_top [] g e f i = let d : i + e ≡ i + (e + 0) = omega arith in ap (product whole_numbers g f) d
all_from_top (j ∷ js) g e f i = ap₂ (less whole_numbers) (all_from_top js g e f i) (all_from_top js g e f (i + j)) ∙ next_from_top j (wprod js g) (e + stride_sum js) f i ∙ ap (λ z. from_top (product whole_numbers (binomial j) (wprod js g)) z f i) (over e (stride_sum js) j)
  where
    over : (a b c : ℕ) → a + b + c ≡ a + (b + c)
    over a b c = omega arith

abbrev pub AllPositive : List ℕ → Type 0
AllPositive js = All (λ j. 0 < j) js

pub all_first : (j : ℕ) (js : List ℕ) → AllPositive (j ∷ js) → 0 < j
all_first j js h = h 0 0 (let l : 0 < suc (length js) = omega arith in l)

pub all_rest : (j : ℕ) (js : List ℕ) → AllPositive (j ∷ js) → AllPositive js
all_rest j js h k d l = h (suc k) d (let n : suc k < suc (length js) = omega arith in n)

binomial_monic : (j : ℕ) → 0 < j → Monic whole_numbers j (binomial j)
binomial_monic j p = subst (λ z. Monic whole_numbers j z.0) (sym (as_poly-minus j)) (Monic-minus j p)

pub wprod_monic : (js : List ℕ) → AllPositive js → (d : ℕ) (g : Whole) → Monic whole_numbers d g → Monic whole_numbers (d + stride_sum js) (wprod js g)
wprod_monic [] h d g M = let e : d ≡ d + 0 = omega arith in subst (λ z. Monic whole_numbers z g) e M
wprod_monic (j ∷ js) h d g M = let e : j + (d + stride_sum js) ≡ d + (stride_sum js + j) = omega arith in subst (λ z. Monic whole_numbers z (wprod (j ∷ js) g)) e (Monic_product whole_ring j (d + stride_sum js) (binomial j) (wprod js g) (binomial_monic j (all_first j js h)) (wprod_monic js (all_rest j js h) d g M))

pub coeff-strided : (js : List ℕ) (f : List ℤ) (i : ℕ) → coeff whole_numbers (strided js f) i ≡ wprod js (coeff whole_numbers f) i
unfolding strided
coeff-strided [] f i = refl
coeff-strided (j ∷ js) f i = coeff-times whole_ring (power_less_one j) (strided js f) i ∙ ap (λ z. product whole_numbers (binomial j) z i) (fun_ext (coeff-strided js f))

module _ (k : ℕ) (above below : List ℕ) (S : AreStrides (suc k) above below) where
  abbrev n : ℕ
  n = degree (suc k)

  abbrev Phi : Whole
  Phi = coeff whole_numbers (phi (suc k))

  abbrev one : Whole
  one = const whole_numbers (pos 1)

  equal : wprod below Phi ≡ wprod above one
  equal = fun_ext (λ i. sym (coeff-strided below (phi (suc k)) i) ∙ S.equal i ∙ coeff-strided above (pos 1 ∷ []) i ∙ ap (λ z. wprod above z i) (fun_ext (coeff-cons whole_ring (pos 1) [])))

  pub phi_is_monic : Monic whole_numbers n Phi
  phi_is_monic = monic_series whole_ring (phi (suc k)) (phi_monic k)

  sums : n + stride_sum below ≡ 0 + stride_sum above
  sums = monic_degree (n + stride_sum below) (0 + stride_sum above) (wprod below Phi) (wprod_monic below S.below_positive n Phi phi_is_monic) (subst (Monic whole_numbers (0 + stride_sum above)) (sym equal) (wprod_monic above S.above_positive 0 one (Monic-one whole_ring)))

  -- the passes below undo the product with Phi_m, and leave the passes above
  pub passes : (f : Whole) (i : ℕ) → less_all below (from_top Phi n f) i ≡ less_all above f i
  passes f i = all_from_top below Phi n f i ∙ ap₂ (λ g e. from_top g e f i) equal sums ∙ sym (all_from_top above one 0 f i) ∙ ap (λ h. less_all above h i) (fun_ext own)
    where
      own : (i : ℕ) → from_top one 0 f i ≡ f i
      own i = one_product f (i + 0) ∙ (let e : i + 0 ≡ i = omega arith in ap f e)

-- equal modulo q, place by place
abbrev pub Same : ℕ → Whole → Whole → Type 0
Same q f g = (i : ℕ) → residue q (f i) ≡ residue q (g i)

module _ (q : ℕ) (positive : 0 < q) where
  pub residue-less : (a b : ℤ) → residue q (less whole_numbers a b) ≡ (residue q a + (residues q).neg (residue q b)) % q
  residue-less a b = residue-add q positive a (neg_ℤ b) ∙ ap (λ z. (residue q a + z) % q) (residue-neg q positive b)

  same_next : (j : ℕ) (f g : Whole) → Same q f g → Same q (less_next j f) (less_next j g)
  same_next j f g h i = residue-less (f i) (f (i + j)) ∙ ap₂ (λ y z. (y + (residues q).neg z) % q) (h i) (h (i + j)) ∙ sym (residue-less (g i) (g (i + j)))

  pub same_all : (js : List ℕ) (f g : Whole) → Same q f g → Same q (less_all js f) (less_all js g)
  unfolding less_all
  same_all [] f g h = h
  same_all (j ∷ js) f g h = same_next j (less_all js f) (less_all js g) (same_all js f g h)

  back : (a b : ℤ) → a ≡ less whole_numbers a b +ℤ b
  back a b = sym (whole_ring.add_assoc a (neg_ℤ b) b ∙ ap (λ z. a +ℤ z) (whole_ring.neg_add b) ∙ add_zero whole_ring a)

  cancel_next : (j : ℕ) → 0 < j → (L : ℕ) (f g : Whole) → Below whole_numbers L f → Below whole_numbers L g → Same q (less_next j f) (less_next j g) → Same q f g
  cancel_next j p L f g b c h i = go L i (omega arith)
    where
      go : (n i : ℕ) → L ≤ i + n → residue q (f i) ≡ residue q (g i)
      go zero i l = ap (residue q) (b i (omega arith) ∙ sym (c i (omega arith)))
      go (suc n) i l = ap (residue q) (back (f i) (f (i + j))) ∙ residue-add q positive (less_next j f i) (f (i + j)) ∙ ap₂ (λ y z. (y + z) % q) (h i) (go n (i + j) (omega arith)) ∙ sym (residue-add q positive (less_next j g i) (g (i + j))) ∙ sym (ap (residue q) (back (g i) (g (i + j))))

  pub Below-all : (js : List ℕ) (L : ℕ) (f : Whole) → Below whole_numbers L f → Below whole_numbers L (less_all js f)
  unfolding less_all
  Below-all [] L f b i l = b i l
  Below-all (j ∷ js) L f b i l = ap₂ (less whole_numbers) (Below-all js L f b i l) (Below-all js L f b (i + j) (omega arith)) ∙ add_neg whole_ring (pos 0)

  pub cancel_all : (js : List ℕ) → AllPositive js → (L : ℕ) (f g : Whole) → Below whole_numbers L f → Below whole_numbers L g → Same q (less_all js f) (less_all js g) → Same q f g
  unfolding less_all
  cancel_all [] h L f g b c s = s
  cancel_all (j ∷ js) h L f g b c s = cancel_all js (all_rest j js h) L f g b c (cancel_next j (all_first j js h) L (less_all js f) (less_all js g) (Below-all js L f b) (Below-all js L g c) s)

  -- a row of numbers as whole numbers
  abbrev pub lift : List ℕ → Whole
  lift a i = pos (get_or a i 0)

  pub Below-lift : (a : List ℕ) → Below whole_numbers (length a) (lift a)
  Below-lift a i l = ap pos (get_or_past a i 0 l)

  -- two rows whose passes agree: one is from the top of the product of the other with Phi_m
  pub by_passes : (k : ℕ) (above below : List ℕ) (S : AreStrides (suc k) above below) (f a s : List ℕ) → IsLess q below f a → IsLess q above s a → Same q (lift f) (from_top (coeff whole_numbers (phi (suc k))) (degree (suc k)) (lift s))
  by_passes k above below S f a s h t = cancel_all below S.below_positive L (lift f) (from_top Psi d (lift s)) (Below-more whole_ring (length f) L (lift f) (omega arith) (Below-lift f)) (λ i l. Below-product whole_ring (suc d) (length s) Psi (lift s) (phi_is_monic k above below S).below (Below-lift s) (i + d) (omega arith)) (λ i. sym (h i) ∙ t i ∙ ap (residue q) (sym (passes k above below S (lift s) i)))
    where
      d : ℕ
      d = degree (suc k)

      Psi : Whole
      Psi = coeff whole_numbers (phi (suc k))

      L : ℕ
      L = length f + suc d + length s
