-- Polynomials over the whole numbers: their monic elements are what a cyclotomic family asks for.
use Rattle.std.specs.Prelude.{◌≡◌, ◌≢◌, ℕ, zero, suc, ◌+◌, ◌*◌, ◌<◌, ℤ, pos, ◌+ℤ◌, ◌*ℤ◌, refl}
use Rattle.std.proofs.Common.{sym, ◌∙◌, ap, subst, arith}
use borrow.Author.Differences.{up, down, same_in, sum_is_lem, product_is}
use lib.IntN.{ℤ_set}
use Rattle.algebra.specs.Ring.{CommRing, whole_numbers}
use Rattle.algebra.specs.Power.{less, power, number, Divides}
use Rattle.algebra.specs.Series.{const, Monic}
use Rattle.algebra.proofs.Integers.{whole_ring}
use Rattle.algebra.proofs.Homs.{map_number}
use Rattle.algebra.proofs.Degrees.{Monic_product, Monic-one, Monic-sum, Below-const, Below-negated, Below-more}
use Rattle.algebra.proofs.Polynomials.{Poly, poly_ring, constant_hom, X, Monic-X, Monic-power, cancel_monic, exact_division, factor_monic}
use Rattle.cyclotomic.proofs.Family.{Monics}

pub number_is : (n : ℕ) → number whole_numbers n ≡ pos n
number_is zero = refl
number_is (suc n) = ap (λ z. z +ℤ pos 1) (number_is n) ∙ same_in (pos n +ℤ pos 1) (pos (suc n)) (omega (arith, sum_is_lem (pos n) (pos 1)))

pub no_torsion : (n : ℕ) (a : ℤ) → 0 < n → number whole_numbers n *ℤ a ≡ pos 0 → a ≡ pos 0
no_torsion zero a p e = absurd (omega arith)
no_torsion (suc n) a p e = same_in a (pos 0) (omega (arith, product_is (pos (suc n)) a, ap up whole, ap down whole))
  where
    whole : pos (suc n) *ℤ a ≡ pos 0
    whole = ap (λ z. z *ℤ a) (sym (number_is (suc n))) ∙ e

pub zero_apart : pos 0 ≢ pos 1
zero_apart e = omega (arith, ap up e)

abbrev pub WholePoly : Type 0
WholePoly = Poly whole_numbers

abbrev pub whole_polys : CommRing
whole_polys = poly_ring whole_ring

abbrev pub indeterminate : WholePoly
indeterminate = X whole_ring

abbrev pub IsMonicPoly : WholePoly → Type 0
IsMonicPoly p = (d : ℕ) × Monic whole_numbers d p.0

-- X^n - 1 has degree n
pub Monic-minus : (n : ℕ) → 0 < n → Monic whole_numbers n (less whole_polys.ops (power whole_polys.ops indeterminate n) whole_polys.one).0
Monic-minus n p = Monic-sum whole_ring n (power whole_polys.ops indeterminate n).0 (whole_polys.neg whole_polys.one).0 (subst (λ d. Monic whole_numbers d (power whole_polys.ops indeterminate n).0) flat (Monic-power whole_ring 1 indeterminate n (Monic-X whole_ring))) (Below-more whole_ring 1 n (whole_polys.neg whole_polys.one).0 p (Below-negated whole_ring 1 (const whole_numbers (pos 1)) (Below-const whole_ring (pos 1))))
  where
    flat : n * 1 ≡ n
    flat = omega arith

pub monic_mul : (a b : WholePoly) → IsMonicPoly a → IsMonicPoly b → IsMonicPoly (whole_polys.mul a b)
monic_mul a b m k = (m.0 + k.0, Monic_product whole_ring m.0 k.0 a.0 b.0 m.1 k.1)

pub exact : (g f : WholePoly) (n : ℕ) → IsMonicPoly g → IsMonicPoly f → 0 < n → Divides whole_polys.ops g (whole_polys.mul (number whole_polys.ops n) f) → Divides whole_polys.ops g f
exact g f n m k p d = exact_division whole_ring ℤ_set m.0 (suc k.0) n g f (λ a e. no_torsion n a p e) m.1 k.1.below (subst (λ z. Divides whole_polys.ops g (whole_polys.mul z f)) (sym (map_number whole_ring whole_polys (constant_hom whole_ring) n)) d)

pub monic_factor : (g h : WholePoly) → IsMonicPoly g → IsMonicPoly (whole_polys.mul g h) → IsMonicPoly h
monic_factor g h m k = (_, (factor_monic whole_ring ℤ_set m.0 k.0 g h zero_apart m.1 k.1).1)

abbrev pub whole_monics : Monics whole_polys indeterminate
whole_monics = record {
  IsMonic = IsMonicPoly;
  monic_one = (0, Monic-one whole_ring);
  monic_mul = monic_mul;
  monic_power = λ n p. (n, Monic-minus n p);
  cancel = λ g h k m. cancel_monic whole_ring ℤ_set m.0 g h k m.1;
  exact = exact;
  monic_factor = monic_factor;
}
