-- The sum of the absolute coefficients of a whole polynomial, and its folding to m coefficients modulo X^m - 1.
use Rattle.std.specs.Prelude.{◌≡◌, ℕ, zero, suc, ◌+◌, ◌*◌, ◌<◌, ◌≤◌, ◌⊎◌, ℤ, pos, negsuc, ◌+ℤ◌, ◌*ℤ◌, nat_abs, refl}
use Rattle.std.proofs.Common.{sym, ◌∙◌, ap, ap₂, arith, inl, inr, le_of_eq, eq-or-lt_of_le, zero-mul}
use mathlib.Core.Path.{fun_ext}
use borrow.Author.Differences.{up, down, sum_is_lem, product_is}
use Rattle.algebra.specs.Ring.{whole_numbers}
use Rattle.algebra.specs.Range.{total, counts}
use Rattle.algebra.specs.Series.{Series, tail, cons, zeros, const, sum, scaled, product, Below}
use Rattle.algebra.proofs.Integers.{whole_ring}
use Rattle.algebra.proofs.Ranges.{total_cong, total_units, total_first, count_laws}
use Rattle.algebra.proofs.SeriesRing.{product_head, product_tail, product_zeros, product-const}
use Rattle.algebra.proofs.Degrees.{Below-zero, Below-tail, Below-cons, Below-zeros}
use Rattle.algebra.proofs.Polynomials.{poly, same, constant}
use Rattle.algebra.specs.Expression.{◌:+◌, ◌:*◌, :0}
use Rattle.algebra.proofs.Solver.{solve2}
use Rattle.cyclotomic.proofs.WholePolys.{whole_polys, indeterminate}

pub abs_up : (z : ℤ) → nat_abs z ≡ up z + down z
abs_up (pos n) = omega arith
abs_up (negsuc n) = omega arith

pub abs_add : (a b : ℤ) → nat_abs (a +ℤ b) ≤ nat_abs a + nat_abs b
abs_add a b = omega (arith, abs_up (a +ℤ b), abs_up a, abs_up b, parts (a +ℤ b) (up a + up b) (down a + down b) (let e : up (a +ℤ b) + (down a + down b) ≡ up a + up b + down (a +ℤ b) = omega (arith, sum_is_lem a b) in e))
  where
    -- one of the two parts is 0
    parts : (z : ℤ) (p q : ℕ) → up z + q ≡ p + down z → up z + down z ≤ p + q
    parts (pos n) p q e = omega arith
    parts (negsuc n) p q e = omega arith

pub abs_mul : (a b : ℤ) → nat_abs (a *ℤ b) ≡ nat_abs a * nat_abs b
abs_mul a b = abs_up (a *ℤ b) ∙ parts ∙ sym (ap₂ (λ x y. x * y) (abs_up a) (abs_up b))
  where
    parts : up (a *ℤ b) + down (a *ℤ b) ≡ (up a + down a) * (up b + down b)
    parts = omega (arith, product_is a b)

abbrev pub Whole : Type 0
Whole = Series ℤ

-- |f 0| + .. + |f (n - 1)|
abbrev pub norm : ℕ → Whole → ℕ
norm n f = total counts n (λ i. nat_abs (f i))

norm_cong : (n : ℕ) (f g : Whole) → ((i : ℕ) → i < n → f i ≡ g i) → norm n f ≡ norm n g
norm_cong n f g h = total_cong counts count_laws n (λ i. nat_abs (f i)) (λ i. nat_abs (g i)) (λ i l. ap nat_abs (h i l))

pub norm_first : (n : ℕ) (f : Whole) → norm (suc n) f ≡ nat_abs (f 0) + norm n (tail f)
norm_first n f = total_first counts count_laws n (λ i. nat_abs (f i))

norm_zeros : (n : ℕ) → norm n (zeros whole_numbers) ≡ 0
norm_zeros n = total_units counts count_laws n (λ i. 0) (λ i l. refl)

-- places above the polynomial count nothing
pub norm_more : (n m : ℕ) (f : Whole) → Below whole_numbers n f → n ≤ m → norm m f ≡ norm n f
norm_more zero m f b l = ap (norm m) (Below-zero whole_ring f b) ∙ norm_zeros m
norm_more (suc n) zero f b l = absurd (omega arith)
norm_more (suc n) (suc m) f b l = norm_first m f ∙ ap (λ z. nat_abs (f 0) + z) (norm_more n m (tail f) (Below-tail whole_ring n f b) (omega arith)) ∙ sym (norm_first n f)

pub norm-sum : (n : ℕ) (f g : Whole) → norm n (sum whole_numbers f g) ≤ norm n f + norm n g
norm-sum zero f g = omega arith
norm-sum (suc n) f g = omega (arith, norm-sum n f g, abs_add (f n) (g n))

pub norm-scaled : (n : ℕ) (a : ℤ) (f : Whole) → norm n (scaled whole_numbers a f) ≡ nat_abs a * norm n f
norm-scaled zero a f = let e : 0 ≡ nat_abs a * 0 = omega arith in e
norm-scaled (suc n) a f = omega (arith, norm-scaled n a f, abs_mul a (f n))

pub norm-product : (n m k : ℕ) (f g : Whole) → Below whole_numbers n f → Below whole_numbers m g → n + m ≤ k → norm k (product whole_numbers f g) ≤ norm n f * norm m g
norm-product zero m k f g b c l = le_of_eq (ap (norm k) (ap (λ h. product whole_numbers h g) (Below-zero whole_ring f b) ∙ fun_ext (product_zeros whole_ring g)) ∙ norm_zeros k ∙ sym (zero-mul (norm m g)))
norm-product (suc n) m zero f g b c l = absurd (omega arith)
norm-product (suc n) m (suc k) f g b c l = omega (
  arith,
  norm_first k (product whole_numbers f g),
  norm_first n f,
  norm_first k g,
  ap nat_abs (product_head whole_ring f g) ∙ abs_mul (f zero) (g zero),
  ap (norm k) (fun_ext (product_tail whole_ring f g)),
  norm-sum k (scaled whole_numbers (f zero) (tail g)) (product whole_numbers (tail f) g),
  norm-scaled k (f zero) (tail g),
  norm-product n m k (tail f) g (Below-tail whole_ring n f b) c (omega arith),
  ap (λ z. nat_abs (f zero) * z) (sym (norm_first k g) ∙ norm_more m (suc k) g c (omega arith)),
  ap (λ z. z * norm m g) (norm_first n f),
)

pub coefficient_le : (n : ℕ) (f : Whole) (i : ℕ) → i < n → nat_abs (f i) ≤ norm n f
coefficient_le zero f i l = absurd (omega arith)
coefficient_le (suc n) f i l = go (coefficient_le n f i) (eq-or-lt_of_le (let k : i ≤ n = omega arith in k))
  where
    go : (i < n → nat_abs (f i) ≤ norm n f) → (i ≡ n) ⊎ (i < n) → nat_abs (f i) ≤ norm n f + nat_abs (f n)
    go r (inl e) = omega (arith, ap (λ j. nat_abs (f j)) e)
    go r (inr s) = omega (arith, r s)

-- the first k coefficients
abbrev pub first : ℕ → Whole → Whole
first zero f = zeros whole_numbers
first (suc k) f = cons (f 0) (first k (tail f))

pub Below-first : (k : ℕ) (f : Whole) → Below whole_numbers k (first k f)
Below-first zero f = Below-zeros whole_ring 0
Below-first (suc k) f = Below-cons whole_ring k (f 0) (first k (tail f)) (Below-first k (tail f))

norm-first : (k : ℕ) (f : Whole) → norm k (first k f) ≡ norm k f
norm-first zero f = refl
norm-first (suc k) f = norm_first k (first (suc k) f) ∙ ap (λ z. nat_abs (f 0) + z) (norm-first k (tail f)) ∙ sym (norm_first k f)

-- k + 1 coefficients of f modulo X^(k + 1) - 1
abbrev pub folded : ℕ → ℕ → Whole → Whole
folded k zero f = zeros whole_numbers
folded k (suc n) f = let g = folded k n (tail f) in cons (f 0 +ℤ g k) (first k g)

pub Below-folded : (k n : ℕ) (f : Whole) → Below whole_numbers (suc k) (folded k n f)
Below-folded k zero f = Below-zeros whole_ring (suc k)
Below-folded k (suc n) f = Below-cons whole_ring k (f 0 +ℤ folded k n (tail f) k) (first k (folded k n (tail f))) (Below-first k (folded k n (tail f)))

pub norm-folded : (k n : ℕ) (f : Whole) → norm (suc k) (folded k n f) ≤ norm n f
norm-folded k zero f = le_of_eq (norm_zeros (suc k))
norm-folded k (suc n) f = omega (
  arith,
  norm_first k (folded k (suc n) f),
  norm_first n f,
  abs_add (f 0) (folded k n (tail f) k),
  norm-first k (folded k n (tail f)),
  norm-folded k n (tail f),
)

open whole_polys use {add as ◌⊕◌, mul as ◌⊗◌, one as 𝟙}

infixl 70 ◌⊕◌
infixl 75 ◌⊗◌
-- a + X f, as polynomials
pub cons_is : (a : ℤ) (n : ℕ) (f : Whole) (b : Below whole_numbers n f) (c : Below whole_numbers (suc n) (cons a f)) → poly whole_numbers (suc n) (cons a f) c ≡ constant whole_ring a ⊕ indeterminate ⊗ poly whole_numbers n f b
cons_is a n f b c = same whole_numbers (fun_ext at)
  where
    one_times : (g : Whole) (i : ℕ) → product whole_numbers (const whole_numbers (pos 1)) g i ≡ g i
    one_times g i = product-const whole_ring (pos 1) g i ∙ whole_ring.one_mul (g i)

    at : (i : ℕ) → cons a f i ≡ const whole_numbers a i +ℤ product whole_numbers indeterminate.0 f i
    at zero = solve2 whole_ring (λ a f. a) (λ a f. a :+ :0 :* f) refl a (f 0) ∙ ap (λ z. a +ℤ z) (sym (product_head whole_ring indeterminate.0 f))
    at (suc i) = solve2 whole_ring (λ a f. f) (λ a f. :0 :+ (:0 :* a :+ f)) refl (f (suc i)) (f i) ∙ ap (λ z. pos 0 +ℤ (pos 0 *ℤ f (suc i) +ℤ z)) (sym (one_times f i)) ∙ ap (λ z. pos 0 +ℤ z) (sym (product_tail whole_ring indeterminate.0 f i))
