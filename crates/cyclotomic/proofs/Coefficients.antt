-- Each coefficient of an element is at most a bound times the greatest coefficient of the powers of X.
use Rattle.std.specs.Prelude.{◌≡◌, ℕ, zero, suc, ◌*◌, ◌<◌, ◌≤◌, pos, ◌+ℤ◌, ◌*ℤ◌, nat_abs, refl}
use Rattle.std.proofs.Common.{sym, ◌∙◌, ap, ap₂, subst, arith, le_trans, le_of_eq, le_refl, mul-le-mul_left}
use native.Mathlib.Nat.{le_of_mul-le-mul_left}
use mathlib.Core.Path.{fun_ext}
use mathlib.Core.HLevel.{Π_set}
use mathlib.Core.Logic.{∥∥₁_elim}
use lib.IntN.{ℤ_set}
use Rattle.algebra.specs.Ring.{whole_numbers}
use Rattle.algebra.specs.Power.{less, power, number, Divides}
use Rattle.algebra.specs.Series.{tail, cons, zeros, sum, scaled, product, Below, Monic}
use Rattle.algebra.proofs.Integers.{whole_ring}
use Rattle.algebra.proofs.SeriesRing.{product_zeros, product_comm}
use Rattle.algebra.proofs.Degrees.{Below-zeros, Below-sum, Below-scaled, Below-negated, multiple_below}
use Rattle.algebra.proofs.Polynomials.{poly, same, constant}
use Rattle.algebra.specs.Expression.{◌:+◌, ◌:-◌}
use Rattle.algebra.proofs.Solver.{solve2}
use Rattle.cyclotomic.proofs.WholePolys.{WholePoly, whole_polys, indeterminate}
use Rattle.cyclotomic.proofs.Norms.{Whole, norm, first, Below-first, abs_add, abs_mul}
use Rattle.cyclotomic.proofs.Modulo.{Alike, Alike_of_path, Alike_sym, Alike_trans, Alike_add, Alike_scale}
use Rattle.cyclotomic.proofs.NormLaws.{NormLe, last_is, num_times, constant_times}

-- modulo a monic polynomial of degree n, coefficients below n are determined
pub alike_same : (n : ℕ) (phi : WholePoly) → Monic whole_numbers n phi.0 → (f g : Whole) (b : Below whole_numbers n f) (c : Below whole_numbers n g) → Alike whole_polys phi (poly whole_numbers n f b) (poly whole_numbers n g c) → f ≡ g
alike_same n phi monic f g b c (h, e) = fun_ext (λ i. solve2 whole_ring (λ a b. a) (λ a b. a :- b :+ b) refl (f i) (g i) ∙ ap (λ z. z +ℤ g i) (difference i ∙ nothing i) ∙ whole_ring.zero_add (g i))
  where
    difference : (i : ℕ) → f i +ℤ whole_ring.neg (g i) ≡ product whole_numbers h.0 phi.0 i
    difference i = ap (λ p. p.0 i) e ∙ product_comm whole_ring phi.0 h.0 i

    small : Below whole_numbers n (product whole_numbers h.0 phi.0)
    small i l = sym (difference i) ∙ Below-sum whole_ring n f (λ j. whole_ring.neg (g j)) b (Below-negated whole_ring n g c) i l

    none : h.0 ≡ zeros whole_numbers
    none = ∥∥₁_elim h.1 (Π_set (λ i. ℤ_set) h.0 (zeros whole_numbers)) (λ (l, s). multiple_below whole_ring l n phi.0 h.0 monic s small)

    nothing : (i : ℕ) → product whole_numbers h.0 phi.0 i ≡ pos 0
    nothing i = ap (λ z. product whole_numbers z phi.0 i) none ∙ product_zeros whole_ring phi.0 i

first_first : (j : ℕ) (f : Whole) → first j (first (suc j) f) ≡ first j f
first_first zero f = refl
first_first (suc j) f = ap (cons (f 0)) (first_first j (tail f))

first_at : (j : ℕ) (f : Whole) → first (suc j) f j ≡ f j
first_at zero f = refl
first_at (suc j) f = first_at j (tail f)

first_whole : (j : ℕ) (f : Whole) → Below whole_numbers j f → (i : ℕ) → first j f i ≡ f i
first_whole zero f b i = sym (b i (omega arith))
first_whole (suc j) f b zero = refl
first_whole (suc j) f b (suc i) = first_whole j (tail f) (λ k l. b (suc k) (omega arith)) i

prefix : ℕ → Whole → WholePoly
prefix j f = poly whole_numbers j (first j f) (Below-first j f)

prefix_next : (j : ℕ) (f : Whole) → prefix (suc j) f ≡ whole_polys.add (prefix j f) (whole_polys.mul (constant whole_ring (f j)) (power whole_polys.ops indeterminate j))
unfolding prefix
prefix_next j f = last_is j (first (suc j) f) (Below-first (suc j) f) ∙ ap₂ (λ y a. whole_polys.add y (whole_polys.mul (constant whole_ring a) (power whole_polys.ops indeterminate j))) (same whole_numbers (first_first j f)) (first_at j f)

module _ (n : ℕ) (phi : WholePoly) (H : ℕ) (rest : ℕ → Whole) (k : ℕ) (short : (t : ℕ) → t < k → Below whole_numbers n (rest t)) (is_rest : (t : ℕ) (l : t < k) → Alike whole_polys phi (power whole_polys.ops indeterminate t) (poly whole_numbers n (rest t) (short t l))) (low : (t i : ℕ) → t < k → nat_abs (rest t i) ≤ H) where
  -- the sum of L t times the remainder of X^t over t < j
  combined : ℕ → Whole → Whole
  combined zero L = zeros whole_numbers
  combined (suc j) L = sum whole_numbers (combined j L) (scaled whole_numbers (L j) (rest j))

  Below-combined : (j : ℕ) (L : Whole) → j ≤ k → Below whole_numbers n (combined j L)
  unfolding combined
  Below-combined zero L l = Below-zeros whole_ring n
  Below-combined (suc j) L l = Below-sum whole_ring n (combined j L) (scaled whole_numbers (L j) (rest j)) (Below-combined j L (omega arith)) (Below-scaled whole_ring n (L j) (rest j) (short j l))

  combined_low : (j : ℕ) (L : Whole) → j ≤ k → (i : ℕ) → nat_abs (combined j L i) ≤ H * norm j L
  unfolding combined
  combined_low zero L l i = omega arith
  combined_low (suc j) L l i = omega (
    arith,
    combined_low j L (omega arith) i,
    abs_add (combined j L i) (L j *ℤ rest j i),
    abs_mul (L j) (rest j i),
    mul-le-mul_left (nat_abs (L j)) (low j i l),
  )

  combined_alike : (j : ℕ) (L : Whole) (l : j ≤ k) → Alike whole_polys phi (prefix j L) (poly whole_numbers n (combined j L) (Below-combined j L l))
  unfolding combined prefix
  combined_alike zero L l = Alike_of_path whole_polys phi (prefix 0 L) (poly whole_numbers n (zeros whole_numbers) (Below-combined 0 L l)) (same whole_numbers refl)
  combined_alike (suc j) L l = Alike_trans whole_polys phi (prefix (suc j) L) (whole_polys.add (prefix j L) (whole_polys.mul c (power whole_polys.ops indeterminate j))) whole (Alike_of_path whole_polys phi (prefix (suc j) L) (whole_polys.add (prefix j L) (whole_polys.mul c (power whole_polys.ops indeterminate j))) (prefix_next j L)) (Alike_trans whole_polys phi (whole_polys.add (prefix j L) (whole_polys.mul c (power whole_polys.ops indeterminate j))) (whole_polys.add before (whole_polys.mul c own)) whole (Alike_add whole_polys phi (prefix j L) before (whole_polys.mul c (power whole_polys.ops indeterminate j)) (whole_polys.mul c own) (combined_alike j L (omega arith)) (Alike_scale whole_polys phi c (power whole_polys.ops indeterminate j) own (is_rest j l))) (Alike_of_path whole_polys phi (whole_polys.add before (whole_polys.mul c own)) whole (ap (whole_polys.add before) (constant_times (L j) n (rest j) (short j l)) ∙ same whole_numbers refl)))
    where
      c : WholePoly
      c = constant whole_ring (L j)

      own : WholePoly
      own = poly whole_numbers n (rest j) (short j l)

      before : WholePoly
      before = poly whole_numbers n (combined j L) (Below-combined j L (omega arith))

      whole : WholePoly
      whole = poly whole_numbers n (combined (suc j) L) (Below-combined (suc j) L l)

module _ (k n : ℕ) (phi : WholePoly) (divides : Divides whole_polys.ops phi (less whole_polys.ops (power whole_polys.ops indeterminate (suc k)) whole_polys.one)) (monic : Monic whole_numbers n phi.0) (H : ℕ) (rest : ℕ → Whole) (short : (t : ℕ) → t < suc k → Below whole_numbers n (rest t)) (is_rest : (t : ℕ) (l : t < suc k) → Alike whole_polys phi (power whole_polys.ops indeterminate t) (poly whole_numbers n (rest t) (short t l))) (low : (t i : ℕ) → t < suc k → nat_abs (rest t i) ≤ H) where
  pub NormLe-coefficient : (a : Whole) (b : Below whole_numbers n a) (B : ℕ) → NormLe k phi divides (poly whole_numbers n a b) B → (i : ℕ) → nat_abs (a i) ≤ H * B
  unfolding prefix
  NormLe-coefficient a b B h i = le_of_mul-le-mul_left (le_trans (le_of_eq (sym (abs_mul (pos h.N) (a i)) ∙ ap (λ f. nat_abs (f i)) multiple)) (le_trans (combined_low n phi H rest (suc k) short is_rest low (suc k) h.L (le_refl (suc k)) i) (le_trans (mul-le-mul_left H h.small) (le_of_eq regroup)))) h.positive
    where
      sum_of : Whole
      sum_of = combined n phi H rest (suc k) short is_rest low (suc k) h.L

      sum_below : Below whole_numbers n sum_of
      sum_below = Below-combined n phi H rest (suc k) short is_rest low (suc k) h.L (le_refl (suc k))

      lifted : WholePoly
      lifted = poly whole_numbers (suc k) h.L h.below

      multiple : scaled whole_numbers (pos h.N) a ≡ sum_of
      multiple = alike_same n phi monic (scaled whole_numbers (pos h.N) a) sum_of (Below-scaled whole_ring n (pos h.N) a b) sum_below (subst (λ z. Alike whole_polys phi z (poly whole_numbers n sum_of sum_below)) (num_times h.N n a b) (Alike_trans whole_polys phi (whole_polys.mul (number whole_polys.ops h.N) (poly whole_numbers n a b)) lifted (poly whole_numbers n sum_of sum_below) (Alike_sym whole_polys phi lifted (whole_polys.mul (number whole_polys.ops h.N) (poly whole_numbers n a b)) h.lifts) (subst (λ z. Alike whole_polys phi z (poly whole_numbers n sum_of sum_below)) (same whole_numbers (fun_ext (first_whole (suc k) h.L h.below))) (combined_alike n phi H rest (suc k) short is_rest low (suc k) h.L (le_refl (suc k))))))

      regroup : H * (h.N * B) ≡ h.N * (H * B)
      regroup = omega arith
