-- Phi_(p k) out of Phi_k for a prime p, and the strides whose products of X^j - 1 give it.
use Rattle.std.specs.Prelude.{◌≡◌, ℕ, suc, ◌+◌, ◌-◌, ◌*◌, ◌<◌, ◌≤◌, true, false, cond, List, [], ◌∷◌, ◌++◌, map, length, replicate, ℤ, pos, ◌+ℤ◌, refl}
use Rattle.std.specs.List.{All}
use Rattle.std.proofs.Common.{sym, ◌∙◌, ap, ap₂, subst, arith, mul_comm, zero-lt-suc}
use Rattle.std.proofs.lemmas.List.{length-replicate}
use mathlib.Core.Path.{fun_ext}
use Rattle.algebra.specs.Ring.{whole_numbers}
use Rattle.algebra.specs.Power.{less, power}
use Rattle.algebra.specs.Divisor.{is_divisor}
use Rattle.algebra.specs.Series.{Monic, product}
use Rattle.algebra.specs.Poly.{coeff, SameCoeffs, plus, times, IsMonic, at_power, quotient_by}
use Rattle.algebra.proofs.Basic.{mul_one, add_zero}
use Rattle.algebra.proofs.Homs.{map_less, map_power}
use Rattle.algebra.proofs.Integers.{whole_ring}
use Rattle.algebra.proofs.Powers.{power-mul}
use Rattle.algebra.proofs.Polynomials.{same}
use Rattle.algebra.proofs.Degrees.{Monic_product}
use Rattle.algebra.proofs.Spread.{Monic-spread, at_power-X}
use Rattle.algebra.proofs.Spread as over
use Rattle.algebra.proofs.Lists.{same_list, coeff-plus, coeff-times, coeff-at_power}
use Rattle.algebra.proofs.Dividing.{monic_series, divided_only, coeff-none}
use Rattle.algebra.specs.Expression.{◌:*◌}
use Rattle.algebra.proofs.Solver.{solve4}
use Rattle.cyclotomic.specs.Cyclotomic.{power_less_one, phi, degree}
use Rattle.cyclotomic.proofs.Family.{own_part}
use Rattle.cyclotomic.proofs.PhiLists.{as_poly, as_poly-times, as_poly-minus, as_poly_one, phi_poly, phi_good, phi_monic, monic_degree}
use Rattle.cyclotomic.proofs.WholePolys.{WholePoly, whole_polys, indeterminate, whole_monics}
use Rattle.cyclo_poly.specs.Primes.{IsPrime}
use Rattle.cyclo_poly.specs.Strides.{strided, AreStrides}
use Rattle.cyclo_poly.proofs.PrimeLaw.{image_is}

infixl 75 ◌⊗◌
abbrev ◌⊗◌ : WholePoly → WholePoly → WholePoly
a ⊗ b = whole_polys.mul a b

abbrev minus_one : ℕ → WholePoly
minus_one j = less whole_polys.ops (power whole_polys.ops indeterminate j) whole_polys.one

-- the product of X^j - 1 over the strides j
abbrev pub prods : List ℕ → WholePoly
prods [] = whole_polys.one
prods (j ∷ js) = minus_one j ⊗ prods js

prods-append : (xs ys : List ℕ) → prods (xs ++ ys) ≡ prods xs ⊗ prods ys
prods-append [] ys = sym (whole_polys.one_mul (prods ys))
prods-append (j ∷ xs) ys = ap (λ z. minus_one j ⊗ z) (prods-append xs ys) ∙ sym (whole_polys.mul_assoc (minus_one j) (prods xs) (prods ys))

poly-strided : (js : List ℕ) (f : List ℤ) → as_poly (strided js f) ≡ prods js ⊗ as_poly f
unfolding strided
poly-strided [] f = sym (whole_polys.one_mul (as_poly f))
poly-strided (j ∷ js) f = as_poly-times (power_less_one j) (strided js f) ∙ ap₂ (λ y z. y ⊗ z) (as_poly-minus j) (poly-strided js f) ∙ sym (whole_polys.mul_assoc (minus_one j) (prods js) (as_poly f))

-- Phi_m times the product over the strides below is that over those above
abbrev pub Strides : ℕ → List ℕ → List ℕ → Type 0
Strides m above below = prods below ⊗ phi_poly m ≡ prods above

pub strides_one : Strides 1 (1 ∷ []) []
strides_one = ap (λ z. whole_polys.one ⊗ z) (sym (own_part whole_polys indeterminate phi_poly 0)) ∙ (phi_good 1).law 0 (omega arith) ∙ sym (mul_one whole_polys (minus_one 1))

abbrev pub AllPositive : List ℕ → Type 0
AllPositive js = All (λ j. 0 < j) js

abbrev pub AllHigh : ℕ → List ℕ → Type 0
AllHigh m js = All (λ j. j ≤ m) js

strided_one : (js : List ℕ) → as_poly (strided js (pos 1 ∷ [])) ≡ prods js
strided_one js = poly-strided js (pos 1 ∷ []) ∙ ap (λ z. prods js ⊗ z) as_poly_one ∙ mul_one whole_polys (prods js)

pub are_strides : (m : ℕ) (above below : List ℕ) → AllPositive above → AllPositive below → AllHigh m above → AllHigh m below → Strides m above below → AreStrides m above below
are_strides m above below a b c d e = record { above_positive = a; below_positive = b; above_high = c; below_high = d; equal = λ i. ap (λ p. p.0 i) (poly-strided below (phi m) ∙ e ∙ sym (strided_one above)) }

pub law_of : (m : ℕ) (above below : List ℕ) → AreStrides m above below → Strides m above below
law_of m above below S = sym (poly-strided below (phi m)) ∙ same whole_numbers (fun_ext S.equal) ∙ strided_one above

-- X^p for X
abbrev at : (p : ℕ) → WholePoly → WholePoly
at p = (over.at_power whole_ring (suc p) (zero-lt-suc p)).map

image-minus : (p j : ℕ) → at p (minus_one j) ≡ minus_one (suc p * j)
image-minus p j = map_less whole_polys whole_polys (over.at_power whole_ring (suc p) (zero-lt-suc p)) (power whole_polys.ops indeterminate j) whole_polys.one ∙ ap₂ (less whole_polys.ops) (map_power whole_polys whole_polys (over.at_power whole_ring (suc p) (zero-lt-suc p)) indeterminate j ∙ ap (λ z. power whole_polys.ops z j) (at_power-X whole_ring (suc p) (zero-lt-suc p)) ∙ sym (power-mul whole_polys indeterminate (suc p) j)) (over.at_power whole_ring (suc p) (zero-lt-suc p)).map_one

image-prods : (p : ℕ) (js : List ℕ) → at p (prods js) ≡ prods (map (λ j. suc p * j) js)
image-prods p [] = (over.at_power whole_ring (suc p) (zero-lt-suc p)).map_one
image-prods p (j ∷ js) = (over.at_power whole_ring (suc p) (zero-lt-suc p)).map_mul (minus_one j) (prods js) ∙ ap₂ (λ y z. y ⊗ z) (image-minus p j) (image-prods p js)

module _ (p : ℕ) (prime : IsPrime (suc p)) (k : ℕ) where
  -- Phi_k(X^p)
  image : at p (phi_poly (suc k)) ≡ phi_poly (suc p * suc k) ⊗ cond (is_divisor (suc p) (suc k)) whole_polys.one (phi_poly (suc k))
  image = image_is whole_polys indeterminate whole_monics phi_poly (λ j. (phi_good (suc j)).law j (omega arith)) (λ j. (phi_good (suc j)).monic j (omega arith)) p prime.euclid (over.at_power whole_ring (suc p) (zero-lt-suc p)) (at_power-X whole_ring (suc p) (zero-lt-suc p)) k

  image_yes : is_divisor (suc p) (suc k) ≡ true → at p (phi_poly (suc k)) ≡ phi_poly (suc p * suc k)
  image_yes t = image ∙ ap (λ b. phi_poly (suc p * suc k) ⊗ cond b whole_polys.one (phi_poly (suc k))) t ∙ mul_one whole_polys (phi_poly (suc p * suc k))

  image_no : is_divisor (suc p) (suc k) ≡ false → at p (phi_poly (suc k)) ≡ phi_poly (suc p * suc k) ⊗ phi_poly (suc k)
  image_no t = image ∙ ap (λ b. phi_poly (suc p * suc k) ⊗ cond b whole_polys.one (phi_poly (suc k))) t

  times_p : List ℕ → List ℕ
  times_p js = map (λ j. suc p * j) js

  image_strides : (above below : List ℕ) → Strides (suc k) above below → prods (map (λ j. suc p * j) below) ⊗ at p (phi_poly (suc k)) ≡ prods (map (λ j. suc p * j) above)
  image_strides above below e = ap (λ z. z ⊗ at p (phi_poly (suc k))) (sym (image-prods p below)) ∙ sym ((over.at_power whole_ring (suc p) (zero-lt-suc p)).map_mul (prods below) (phi_poly (suc k))) ∙ ap (at p) e ∙ image-prods p above

  pub strides_yes : is_divisor (suc p) (suc k) ≡ true → (above below : List ℕ) → Strides (suc k) above below → Strides (suc p * suc k) (map (λ j. suc p * j) above) (map (λ j. suc p * j) below)
  strides_yes t above below e = ap (λ z. prods (map (λ j. suc p * j) below) ⊗ z) (sym (image_yes t)) ∙ image_strides above below e

  pub strides_no : is_divisor (suc p) (suc k) ≡ false → (above below : List ℕ) → Strides (suc k) above below → Strides (suc p * suc k) (map (λ j. suc p * j) above ++ below) (map (λ j. suc p * j) below ++ above)
  strides_no t above below e = ap (λ z. z ⊗ phi_poly (suc p * suc k)) (prods-append (map (λ j. suc p * j) below) above ∙ ap (λ z. prods (map (λ j. suc p * j) below) ⊗ z) (sym e)) ∙ solve4 whole_polys (λ a b c d. (a :* (b :* c)) :* d) (λ a b c d. (a :* (d :* c)) :* b) refl (prods (map (λ j. suc p * j) below)) (prods below) (phi_poly (suc k)) (phi_poly (suc p * suc k)) ∙ ap (λ z. z ⊗ prods below) (ap (λ z. prods (map (λ j. suc p * j) below) ⊗ z) (sym (image_no t)) ∙ image_strides above below e) ∙ sym (prods-append (map (λ j. suc p * j) above) below)

  -- Phi_k(X^p) as a list with no zeros at its end
  module _ (g : List ℤ) (long : length g ≡ (length (phi (suc k)) - 1) * suc p + 1) (equal : SameCoeffs whole_numbers g (at_power whole_numbers (suc p) (phi (suc k)))) where
    g_poly : as_poly g ≡ at p (phi_poly (suc k))
    g_poly = same whole_numbers (fun_ext (λ i. equal i ∙ coeff-at_power whole_ring (suc p) (zero-lt-suc p) (phi (suc k)) i))

    g_monic : Monic whole_numbers (suc p * degree (suc k)) (coeff whole_numbers g)
    g_monic = subst (λ z. Monic whole_numbers (suc p * degree (suc k)) z.0) (sym g_poly) (Monic-spread whole_ring (suc p) (zero-lt-suc p) (degree (suc k)) (coeff whole_numbers (phi (suc k))) (monic_series whole_ring (phi (suc k)) (phi_monic k)))

    next_monic : IsMonic whole_numbers (phi (suc p * suc k))
    next_monic = subst (λ z. IsMonic whole_numbers (phi z)) (let e : suc (p + suc p * k) ≡ suc p * suc k = omega arith in e) (phi_monic (p + suc p * k))

    pub next_yes : is_divisor (suc p) (suc k) ≡ true → g ≡ phi (suc p * suc k)
    next_yes t = same_list whole_numbers g (phi (suc p * suc k)) (long ∙ lengths (length (phi (suc p * suc k))) next_monic.filled degrees) (λ i. ap (λ z. z.0 i) (g_poly ∙ image_yes t))
      where
        degrees : suc p * degree (suc k) ≡ degree (suc p * suc k)
        degrees = monic_degree (suc p * degree (suc k)) (degree (suc p * suc k)) (coeff whole_numbers g) g_monic (subst (λ z. Monic whole_numbers (degree (suc p * suc k)) z.0) (sym (g_poly ∙ image_yes t)) (monic_series whole_ring (phi (suc p * suc k)) next_monic))

        lengths : (l : ℕ) → 0 < l → suc p * degree (suc k) ≡ l - 1 → (length (phi (suc k)) - 1) * suc p + 1 ≡ l
        lengths l a e = ap (λ z. z + 1) (mul_comm (length (phi (suc k)) - 1) (suc p) ∙ e) ∙ omega arith

    pub next_no : is_divisor (suc p) (suc k) ≡ false → phi (suc p * suc k) ≡ quotient_by whole_numbers (phi (suc k)) g
    next_no t = (divided_only whole_ring (phi (suc k)) (phi_monic k) g (phi (suc p * suc k)) (replicate (degree (suc k)) (pos 0)) (record { quotient_long = lengths (length (phi (suc p * suc k))) next_monic.filled degrees; remainder_long = length-replicate (degree (suc k)) (pos 0); sum_is = sums })).0
      where
        polys : as_poly g ≡ phi_poly (suc p * suc k) ⊗ phi_poly (suc k)
        polys = g_poly ∙ image_no t

        degrees : suc p * degree (suc k) ≡ degree (suc p * suc k) + degree (suc k)
        degrees = monic_degree (suc p * degree (suc k)) (degree (suc p * suc k) + degree (suc k)) (coeff whole_numbers g) g_monic (subst (λ z. Monic whole_numbers (degree (suc p * suc k) + degree (suc k)) z.0) (sym polys) (Monic_product whole_ring (degree (suc p * suc k)) (degree (suc k)) (coeff whole_numbers (phi (suc p * suc k))) (coeff whole_numbers (phi (suc k))) (monic_series whole_ring (phi (suc p * suc k)) next_monic) (monic_series whole_ring (phi (suc k)) (phi_monic k))))

        lengths : (l : ℕ) → 0 < l → suc p * degree (suc k) ≡ l - 1 + degree (suc k) → l ≡ length g - degree (suc k)
        lengths l a e = last (length g) (length (phi (suc k)) - 1) (long ∙ ap (λ z. z + 1) (mul_comm (length (phi (suc k)) - 1) (suc p) ∙ e))
          where
            last : (x d : ℕ) → x ≡ l - 1 + d + 1 → l ≡ x - d
            last x d e = omega arith

        sums : SameCoeffs whole_numbers (plus whole_numbers (times whole_numbers (phi (suc p * suc k)) (phi (suc k))) (replicate (degree (suc k)) (pos 0))) g
        sums i = coeff-plus whole_ring (times whole_numbers (phi (suc p * suc k)) (phi (suc k))) (replicate (degree (suc k)) (pos 0)) i ∙ ap₂ (λ y z. y +ℤ z) (coeff-times whole_ring (phi (suc p * suc k)) (phi (suc k)) i) (coeff-none whole_ring (degree (suc k)) i) ∙ add_zero whole_ring (product whole_numbers (coeff whole_numbers (phi (suc p * suc k))) (coeff whole_numbers (phi (suc k))) i) ∙ sym (ap (λ z. z.0 i) polys)
