-- The elements of R against polynomials up to a multiple of Phi_m. Here m is k + 1.
use Rattle.std.specs.Prelude.{◌≡◌, ℕ, suc, ◌*◌, ◌<◌, ◌≤◌, List, ℤ, ◌+ℤ◌, refl}
use Rattle.std.proofs.Common.{sym, ◌∙◌, ap, subst, arith}
use mathlib.Core.Path.{fun_ext}
use Rattle.algebra.specs.Ring.{whole_numbers}
use Rattle.algebra.specs.Power.{less, power, Divides}
use Rattle.algebra.specs.Divisor.{HasInverse}
use Rattle.algebra.specs.Series.{product, Below, Monic}
use Rattle.algebra.specs.Poly.{coeff, times, at_power, quotient_digits}
use Rattle.algebra.proofs.Integers.{whole_ring}
use Rattle.algebra.proofs.SeriesRing.{product_comm, product-const}
use Rattle.algebra.proofs.Polynomials.{poly, same, constant}
use Rattle.algebra.proofs.Spread.{Monic-spread, at_power-X}
use Rattle.algebra.proofs.Spread as over
use Rattle.algebra.proofs.Lists.{same_list, Below-coeff, coeff-scaled, coeff-at_power}
use Rattle.algebra.proofs.Dividing.{monic_series, divides, length-remainder}
use Rattle.algebra.proofs.Quotients.{remainder_small}
use Rattle.algebra.specs.Expression.{◌:+◌, ◌:-◌}
use Rattle.algebra.proofs.Solver.{solve3}
use Rattle.cyclotomic.specs.Family.{IsProductAt}
use Rattle.cyclotomic.specs.Cyclotomic.{phi, degree, R, IsElement, fold, substituted, multiple}
use Rattle.cyclotomic.proofs.Family.{phi_divides_power}
use Rattle.cyclotomic.proofs.Images.{divides_image, image_law}
use Rattle.cyclotomic.proofs.WholePolys.{WholePoly, whole_polys, indeterminate, whole_monics}
use Rattle.cyclotomic.proofs.Modulo.{Alike, Alike_of_path, Alike_sym, Alike_trans, Alike_map}
use Rattle.cyclotomic.proofs.Coefficients.{alike_same}
use Rattle.cyclotomic.proofs.PhiLists.{as_poly, as_poly-times, phi_poly, phi_good, phi_monic}

-- equal up to a multiple of Phi_m
abbrev pub alike : ℕ → WholePoly → WholePoly → Type 0
alike k p q = Alike whole_polys (phi_poly (suc k)) p q

pub phi_divides : (k : ℕ) → Divides whole_polys.ops (phi_poly (suc k)) (less whole_polys.ops (power whole_polys.ops indeterminate (suc k)) whole_polys.one)
phi_divides k = phi_divides_power whole_polys indeterminate whole_monics phi_poly (suc k) k (phi_good (suc k)) (omega arith)

pub phi_series : (k : ℕ) → Monic whole_numbers (degree (suc k)) (phi_poly (suc k)).0
phi_series k = monic_series whole_ring (phi (suc k)) (phi_monic k)

-- Phi_m divides Phi_m(X^j) for a unit j modulo m
pub phi_divides_image : (k j : ℕ) (p : 0 < j) → HasInverse (suc k) j → Divides whole_polys.ops (phi_poly (suc k)) ((over.at_power whole_ring j p).map (phi_poly (suc k)))
phi_divides_image k j p unit = divides_image whole_polys indeterminate whole_monics phi_poly (λ d. (over.at_power whole_ring j p).map (phi_poly d)) (suc k) k j (phi_good (suc k)) (omega arith) p unit law (j * degree (suc k), Monic-spread whole_ring j p (degree (suc k)) (phi_poly (suc k)).0 (phi_series k))
  where
    law : (i : ℕ) → i ≤ k → IsProductAt whole_polys.ops (power whole_polys.ops indeterminate j) (λ d. (over.at_power whole_ring j p).map (phi_poly d)) (suc i)
    law i l = image_law whole_polys whole_polys (over.at_power whole_ring j p) indeterminate phi_poly (power whole_polys.ops indeterminate j) (at_power-X whole_ring j p) (suc i) ((phi_good (suc i)).law i (omega arith))

-- the remainder by Phi_m
pub fold_alike : (k : ℕ) (f : List ℤ) → alike k (as_poly f) (as_poly (fold (suc k) f))
fold_alike k f = (as_poly q, same whole_numbers (fun_ext at))
  where
    q : List ℤ
    q = quotient_digits whole_numbers (phi (suc k)) f

    r : List ℤ
    r = fold (suc k) f

    at : (i : ℕ) → coeff whole_numbers f i +ℤ whole_ring.neg (coeff whole_numbers r i) ≡ product whole_numbers (coeff whole_numbers (phi (suc k))) (coeff whole_numbers q) i
    at i = ap (λ z. z +ℤ whole_ring.neg (coeff whole_numbers r i)) (sym ((divides whole_ring (phi (suc k)) (phi_monic k) f).sum_is i)) ∙ solve3 whole_ring (λ p r s. p :+ r :- r) (λ p r s. p) refl (product whole_numbers (coeff whole_numbers q) (coeff whole_numbers (phi (suc k))) i) (coeff whole_numbers r i) (coeff whole_numbers r i) ∙ product_comm whole_ring (coeff whole_numbers q) (coeff whole_numbers (phi (suc k))) i

pub fold_element : (m : ℕ) (f : List ℤ) → IsElement m (fold m f)
fold_element m f = length-remainder whole_numbers (phi m) f

-- elements that are equal up to a multiple of Phi_m are equal
pub element_same : (k : ℕ) (a b : List ℤ) → IsElement (suc k) a → IsElement (suc k) b → alike k (as_poly a) (as_poly b) → a ≡ b
element_same k a b e f h = same_list whole_numbers a b (e ∙ sym f) (λ i. ap (λ s. s i) (alike_same (degree (suc k)) (phi_poly (suc k)) (phi_series k) (coeff whole_numbers a) (coeff whole_numbers b) below_a below_b (Alike_trans whole_polys (phi_poly (suc k)) (poly whole_numbers (degree (suc k)) (coeff whole_numbers a) below_a) (as_poly a) (poly whole_numbers (degree (suc k)) (coeff whole_numbers b) below_b) (Alike_of_path whole_polys (phi_poly (suc k)) (poly whole_numbers (degree (suc k)) (coeff whole_numbers a) below_a) (as_poly a) (same whole_numbers refl)) (Alike_trans whole_polys (phi_poly (suc k)) (as_poly a) (as_poly b) (poly whole_numbers (degree (suc k)) (coeff whole_numbers b) below_b) h (Alike_of_path whole_polys (phi_poly (suc k)) (as_poly b) (poly whole_numbers (degree (suc k)) (coeff whole_numbers b) below_b) (same whole_numbers refl))))))
  where
    below_a : Below whole_numbers (degree (suc k)) (coeff whole_numbers a)
    below_a i l = Below-coeff whole_numbers a i (omega arith)

    below_b : Below whole_numbers (degree (suc k)) (coeff whole_numbers b)
    below_b i l = Below-coeff whole_numbers b i (omega arith)

pub alike_fold : (k : ℕ) (f h : List ℤ) → alike k (as_poly f) (as_poly h) → fold (suc k) f ≡ fold (suc k) h
alike_fold k f h s = element_same k (fold (suc k) f) (fold (suc k) h) (fold_element (suc k) f) (fold_element (suc k) h) (Alike_trans whole_polys (phi_poly (suc k)) (as_poly (fold (suc k) f)) (as_poly f) (as_poly (fold (suc k) h)) (Alike_sym whole_polys (phi_poly (suc k)) (as_poly f) (as_poly (fold (suc k) f)) (fold_alike k f)) (Alike_trans whole_polys (phi_poly (suc k)) (as_poly f) (as_poly h) (as_poly (fold (suc k) h)) s (fold_alike k h)))

-- an element is its own remainder
pub fold_own : (k : ℕ) (a : List ℤ) → IsElement (suc k) a → fold (suc k) a ≡ a
fold_own k a e = remainder_small whole_ring (phi (suc k)) (phi_monic k) a e

pub as_poly-scaled : (c : ℤ) (a : List ℤ) → as_poly (multiple c a) ≡ whole_polys.mul (constant whole_ring c) (as_poly a)
as_poly-scaled c a = same whole_numbers (fun_ext (λ i. coeff-scaled whole_ring c a i ∙ sym (product-const whole_ring c (coeff whole_numbers a) i)))

pub as_poly-at_power : (j : ℕ) (p : 0 < j) (f : List ℤ) → as_poly (at_power whole_numbers j f) ≡ (over.at_power whole_ring j p).map (as_poly f)
as_poly-at_power j p f = same whole_numbers (fun_ext (coeff-at_power whole_ring j p f))

-- the product of R, and a(X^j)
pub product_alike : (k : ℕ) (a b : List ℤ) → alike k (whole_polys.mul (as_poly a) (as_poly b)) (as_poly ((R (suc k)).mul a b))
product_alike k a b = subst (λ z. alike k z (as_poly ((R (suc k)).mul a b))) (as_poly-times a b) (fold_alike k (times whole_numbers a b))

pub substituted_alike : (k j : ℕ) (p : 0 < j) (a : List ℤ) → alike k ((over.at_power whole_ring j p).map (as_poly a)) (as_poly (substituted (suc k) j a))
substituted_alike k j p a = subst (λ z. alike k z (as_poly (substituted (suc k) j a))) (as_poly-at_power j p a) (fold_alike k (at_power whole_numbers j a))

-- substitution keeps equality up to a multiple of Phi_m
pub image_alike : (k j : ℕ) (p : 0 < j) → HasInverse (suc k) j → (f h : WholePoly) → alike k f h → alike k ((over.at_power whole_ring j p).map f) ((over.at_power whole_ring j p).map h)
image_alike k j p unit f h s = Alike_map whole_polys (phi_poly (suc k)) (over.at_power whole_ring j p) (phi_divides_image k j p unit) f h s
