-- The norm keeps each bound under X ↦ X^j, where phi divides its image.
use Rattle.std.specs.Prelude.{◌≡◌, ℕ, zero, suc, ◌+◌, ◌*◌, ◌<◌, ◌≤◌, refl}
use Rattle.std.proofs.Common.{◌∙◌, ap, ap₂, subst, arith, le_trans, le_of_eq}
use mathlib.Core.Path.{fun_ext}
use Rattle.algebra.specs.Ring.{whole_numbers}
use Rattle.algebra.specs.Power.{less, power, number, Divides}
use Rattle.algebra.specs.Series.{tail, const, shifted, spread}
use Rattle.algebra.proofs.Integers.{whole_ring}
use Rattle.algebra.proofs.Homs.{map_number}
use Rattle.algebra.proofs.Degrees.{Below-const}
use Rattle.algebra.proofs.Polynomials.{poly, same}
use Rattle.algebra.proofs.Spread.{spread_is, Below-spread, at_power}
use Rattle.cyclotomic.proofs.WholePolys.{WholePoly, whole_polys, indeterminate}
use Rattle.cyclotomic.proofs.Norms.{Whole, norm, norm_first, norm_more, norm-sum}
use Rattle.cyclotomic.proofs.Modulo.{Alike, Alike_map}
use Rattle.cyclotomic.proofs.NormLaws.{NormLe, from_list}

norm-shifted : (k n : ℕ) (f : Whole) → norm (k + n) (shifted whole_numbers k f) ≡ norm n f
norm-shifted zero n f = let e : 0 + n ≡ n = omega arith in ap (λ m. norm m f) e
norm-shifted (suc k) n f = ap (λ m. norm m (shifted whole_numbers (suc k) f)) next ∙ norm_first (k + n) (shifted whole_numbers (suc k) f) ∙ zero_add (norm (k + n) (shifted whole_numbers k f)) ∙ norm-shifted k n f
  where
    next : suc k + n ≡ suc (k + n)
    next = omega arith

    zero_add : (z : ℕ) → 0 + z ≡ z
    zero_add z = omega arith

pub norm-spread : (k : ℕ) → 0 < k → (n : ℕ) (f : Whole) → norm (n * k) (spread whole_numbers k f) ≤ norm n f
norm-spread k p zero f = let e : 0 * k ≡ 0 = omega arith in le_of_eq (ap (λ m. norm m (spread whole_numbers k f)) e)
norm-spread k p (suc n) f = omega (
  arith,
  ap₂ norm next (fun_ext (spread_is whole_ring k p f)),
  norm-sum (k + n * k) (const whole_numbers (f zero)) (shifted whole_numbers k (spread whole_numbers k (tail f))),
  norm_more 1 (k + n * k) (const whole_numbers (f zero)) (Below-const whole_ring (f zero)) (omega arith),
  norm-shifted k (n * k) (spread whole_numbers k (tail f)),
  norm-spread k p n (tail f),
  norm_first n f,
)
  where
    next : suc n * k ≡ k + n * k
    next = omega arith

module _ (k : ℕ) (phi : WholePoly) (divides : Divides whole_polys.ops phi (less whole_polys.ops (power whole_polys.ops indeterminate (suc k)) whole_polys.one)) (j : ℕ) (positive : 0 < j) (into : Divides whole_polys.ops phi ((at_power whole_ring j positive).map phi)) where
  pub NormLe_image : (p : WholePoly) (B : ℕ) → NormLe k phi divides p B → NormLe k phi divides ((at_power whole_ring j positive).map p) B
  NormLe_image p B h = from_list k phi divides (image p) B h.N (suc k * j) (spread whole_numbers j h.L) (Below-spread whole_ring j positive (suc k) h.L h.below) h.positive lifts (le_trans (norm-spread j positive (suc k) h.L) h.small)
    where
      image : WholePoly → WholePoly
      image q = (at_power whole_ring j positive).map q

      lifted : WholePoly
      lifted = poly whole_numbers (suc k) h.L h.below

      number_out : image (whole_polys.mul (number whole_polys.ops h.N) p) ≡ whole_polys.mul (number whole_polys.ops h.N) (image p)
      number_out = (at_power whole_ring j positive).map_mul (number whole_polys.ops h.N) p ∙ ap (λ z. whole_polys.mul z (image p)) (map_number whole_polys whole_polys (at_power whole_ring j positive) h.N)

      lifts : Alike whole_polys phi (poly whole_numbers (suc k * j) (spread whole_numbers j h.L) (Below-spread whole_ring j positive (suc k) h.L h.below)) (whole_polys.mul (number whole_polys.ops h.N) (image p))
      lifts = subst (Alike whole_polys phi (poly whole_numbers (suc k * j) (spread whole_numbers j h.L) (Below-spread whole_ring j positive (suc k) h.L h.below))) number_out (subst (λ z. Alike whole_polys phi z (image (whole_polys.mul (number whole_polys.ops h.N) p))) (same whole_numbers refl) (Alike_map whole_polys phi (at_power whole_ring j positive) into lifted (whole_polys.mul (number whole_polys.ops h.N) p) h.lifts))
