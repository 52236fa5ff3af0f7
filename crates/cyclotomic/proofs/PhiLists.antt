-- The lists phi are the cyclotomic family: the product over the divisors of m is X^m - 1, each is monic, and they are the only ones.
use Rattle.std.specs.Prelude.{◌≡◌, ℕ, zero, suc, ◌+◌, ◌-◌, ◌<◌, ◌≤◌, ◌⊎◌, Bool, true, false, cond, max, replicate, List, [], ◌∷◌, length, get_or, ℤ, pos, ◌*ℤ◌, refl}
use Rattle.std.proofs.Common.{sym, ◌∙◌, ap, ap₂, subst, arith, inl, inr, eq-or-lt_of_le, length-append, add_left_cancel}
use Rattle.std.proofs.lemmas.List.{length-replicate}
use Rattle.std.proofs.Math.ListN.{get_or-append}
use Rattle.std.proofs.Math.Seq.{get_or-append_seam}
use Rattle.std.proofs.lemmas.Bool.{cases_order}
use mathlib.Core.Path.{fun_ext}
use mathlib.Core.HLevel.{Π_set}
use mathlib.Core.Logic.{∥∥₁_elim}
use lib.IntN.{ℤ_set}
use Rattle.algebra.specs.Ring.{whole_numbers}
use Rattle.algebra.specs.Range.{total, counts}
use Rattle.algebra.specs.Power.{less, power, Divides}
use Rattle.algebra.specs.Divisor.{is_divisor, number_of_units}
use Rattle.algebra.specs.Series.{zeros, product, Monic, IsDivision}
use Rattle.algebra.specs.Poly.{coeff, SameCoeffs, plus, negated, times, monomial, quotient_by, quotient_digits, remainder, degree_of, IsMonic}
use Rattle.algebra.proofs.Basic.{add_zero}
use Rattle.algebra.proofs.Integers.{whole_ring}
use Rattle.algebra.proofs.SeriesRing.{product_comm}
use Rattle.algebra.proofs.Degrees.{Below-more, product_top, quotient_only}
use Rattle.algebra.proofs.Polynomials.{same, factor_monic}
use Rattle.algebra.proofs.Spread.{power-X}
use Rattle.algebra.proofs.Lists.{same_list, poly_of, Below-coeff, length-plus, length-times, coeff-cons, coeff-plus, coeff-negated, coeff-times, coeff-monomial}
use Rattle.algebra.proofs.Dividing.{monic_series, divides, quotient-digits, length-quotient_by}
use Rattle.algebra.proofs.Divisors.{divisor_yes, Dvd_refl}
use Rattle.algebra.proofs.Ranges.{total_cong, count_laws}
use Rattle.cyclotomic.specs.Family.{part, over_divisors, IsProductAt}
use Rattle.cyclotomic.specs.Cyclotomic.{lists, power_less_one, member, phis, phi, degree}
use Rattle.cyclotomic.proofs.Gauss.{sum_of_units}
use Rattle.cyclotomic.proofs.Family.{Good, partial_divides, family_next, only_family}
use Rattle.cyclotomic.proofs.WholePolys.{WholePoly, whole_polys, indeterminate, whole_monics, zero_apart, Monic-minus}

-- the polynomial of a list
abbrev pub as_poly : List ℤ → WholePoly
as_poly f = poly_of whole_ring f

pub as_poly-times : (f g : List ℤ) → as_poly (times whole_numbers f g) ≡ whole_polys.mul (as_poly f) (as_poly g)
as_poly-times f g = same whole_numbers (fun_ext (coeff-times whole_ring f g))

pub as_poly-plus : (f g : List ℤ) → as_poly (plus whole_numbers f g) ≡ whole_polys.add (as_poly f) (as_poly g)
as_poly-plus f g = same whole_numbers (fun_ext (coeff-plus whole_ring f g))

pub as_poly_one : as_poly (pos 1 ∷ []) ≡ whole_polys.one
as_poly_one = same whole_numbers (fun_ext (coeff-cons whole_ring (pos 1) []))

pub as_poly-monomial : (k : ℕ) → as_poly (monomial whole_numbers k) ≡ power whole_polys.ops indeterminate k
as_poly-monomial k = same whole_numbers (fun_ext (λ i. coeff-monomial whole_ring k i ∙ sym (power-X whole_ring k i)))

pub as_poly-minus : (k : ℕ) → as_poly (power_less_one k) ≡ less whole_polys.ops (power whole_polys.ops indeterminate k) whole_polys.one
as_poly-minus k = as_poly-plus (monomial whole_numbers k) (negated whole_numbers (pos 1 ∷ [])) ∙ ap₂ whole_polys.add (as_poly-monomial k) (same whole_numbers (fun_ext (coeff-negated whole_ring (pos 1 ∷ []))) ∙ ap whole_polys.neg as_poly_one)

pub length-power_less_one : (k : ℕ) → length (power_less_one k) ≡ suc k
length-power_less_one k = largest (length (monomial whole_numbers k)) (length (power_less_one k)) (length-append (replicate k (pos 0)) (pos 1 ∷ []) ∙ ap (λ n. n + 1) (length-replicate k (pos 0))) (length-plus whole_numbers (monomial whole_numbers k) (negated whole_numbers (pos 1 ∷ [])))
  where
    largest : (a b : ℕ) → a ≡ k + 1 → b ≡ max a 1 → b ≡ suc k
    largest a b e f = omega arith

-- products over divisors, of lists and of their polynomials
as_poly-over : (f : ℕ → List ℤ) (m n : ℕ) → as_poly (over_divisors lists f m n) ≡ over_divisors whole_polys.ops (λ d. as_poly (f d)) m n
as_poly-over f m zero = as_poly_one
as_poly-over f m (suc n) = as_poly-times (over_divisors lists f m n) (part lists f m n) ∙ ap₂ whole_polys.mul (as_poly-over f m n) (at (is_divisor (suc n) m))
  where
    at : (b : Bool) → as_poly (cond b (f (suc n)) (pos 1 ∷ [])) ≡ cond b (as_poly (f (suc n))) whole_polys.one
    at true = refl
    at false = as_poly_one

over_cong : (f g : ℕ → List ℤ) (m n : ℕ) → ((i : ℕ) → i < n → f (suc i) ≡ g (suc i)) → over_divisors lists f m n ≡ over_divisors lists g m n
over_cong f g m zero h = refl
over_cong f g m (suc n) h = ap₂ (times whole_numbers) (over_cong f g m n (λ i l. h i (omega arith))) (ap (λ z. cond (is_divisor (suc n) m) z (pos 1 ∷ [])) (h n (omega arith)))

-- ---- monic lists
abbrev pub MonicList : List ℤ → Type 0
MonicList f = IsMonic whole_numbers f

abbrev deg : List ℤ → ℕ
deg f = degree_of whole_numbers f

one_monic : MonicList (pos 1 ∷ [])
one_monic = record { filled = omega arith; top = refl }

pub degree-times : (f g : List ℤ) → MonicList f → MonicList g → deg (times whole_numbers f g) ≡ deg f + deg g
degree-times f g a b = omega (arith, length-times whole_numbers f g a.filled b.filled, a.filled, b.filled)

pub times_monic : (f g : List ℤ) → MonicList f → MonicList g → MonicList (times whole_numbers f g)
times_monic f g a b = record {
  filled = omega (arith, length-times whole_numbers f g a.filled b.filled, a.filled, b.filled);
  top = ap (coeff whole_numbers (times whole_numbers f g)) (degree-times f g a b) ∙ coeff-times whole_ring f g (deg f + deg g) ∙ product_top whole_ring (deg f) (deg g) (coeff whole_numbers f) (coeff whole_numbers g) (monic_series whole_ring f a).below (monic_series whole_ring g b).below ∙ ap₂ (λ y z. y *ℤ z) a.top b.top;
}

over_monic : (f : ℕ → List ℤ) (m n : ℕ) → ((i : ℕ) → i < n → MonicList (f (suc i))) → MonicList (over_divisors lists f m n)
over_monic f m zero h = one_monic
over_monic f m (suc n) h = times_monic (over_divisors lists f m n) (part lists f m n) (over_monic f m n (λ i l. h i (omega arith))) (at (is_divisor (suc n) m))
  where
    at : (b : Bool) → MonicList (cond b (f (suc n)) (pos 1 ∷ []))
    at true = h n (omega arith)
    at false = one_monic

-- the degree of the product is the sum of the degrees
over_degree : (f : ℕ → List ℤ) (m n : ℕ) → ((i : ℕ) → i < n → MonicList (f (suc i))) → deg (over_divisors lists f m n) ≡ total counts n (λ i. cond (is_divisor (suc i) m) (deg (f (suc i))) 0)
over_degree f m zero h = let e : 1 - 1 ≡ 0 = omega arith in e
over_degree f m (suc n) h = degree-times (over_divisors lists f m n) (part lists f m n) (over_monic f m n (λ i l. h i (omega arith))) (at_monic (is_divisor (suc n) m)) ∙ ap₂ (λ y z. y + z) (over_degree f m n (λ i l. h i (omega arith))) (at (is_divisor (suc n) m))
  where
    at_monic : (b : Bool) → MonicList (cond b (f (suc n)) (pos 1 ∷ []))
    at_monic true = h n (omega arith)
    at_monic false = one_monic

    at : (b : Bool) → deg (cond b (f (suc n)) (pos 1 ∷ [])) ≡ cond b (deg (f (suc n))) 0
    at true = refl
    at false = let e : 1 - 1 ≡ 0 = omega arith in e

-- a monic polynomial has one degree
pub monic_degree : (d e : ℕ) (f : ℕ → ℤ) → Monic whole_numbers d f → Monic whole_numbers e f → d ≡ e
monic_degree d e f a b = go (cases_order d e)
  where
    go : (d ≡ e) ⊎ ((d < e) ⊎ (e < d)) → d ≡ e
    go (inl s) = s
    go (inr (inl l)) = absurd (zero_apart (sym (a.below e l) ∙ b.top))
    go (inr (inr l)) = absurd (zero_apart (sym (b.below d l) ∙ a.top))

-- ---- the list of the phis
length-phis : (n : ℕ) → length (phis n) ≡ n
unfolding phis
length-phis zero = refl
length-phis (suc n) = length-append (phis n) (_ ∷ []) ∙ omega (arith, length-phis n)

one_less : (i : ℕ) → suc i - 1 ≡ i
one_less i = omega arith

-- a member stays
phis_member : (n i : ℕ) → i < n → member (phis n) (suc i) ≡ phi (suc i)
unfolding phis phi
phis_member zero i l = absurd (omega arith)
phis_member (suc n) i l = go (eq-or-lt_of_le (let k : i ≤ n = omega arith in k)) (phis_member n i)
  where
    go : (i ≡ n) ⊎ (i < n) → (i < n → member (phis n) (suc i) ≡ phi (suc i)) → member (phis (suc n)) (suc i) ≡ phi (suc i)
    go (inl e) r = ap (λ k. member (phis (suc k)) (suc i)) (sym e)
    go (inr s) r = get_or-append (phis n) (_ ∷ []) [] (suc i - 1) (omega (arith, length-phis n)) ∙ r s

phi_next : (n : ℕ) → phi (suc n) ≡ quotient_by whole_numbers (over_divisors lists phi (suc n) n) (power_less_one (suc n))
unfolding phis phi
phi_next n = ap (λ i. get_or (phis (suc n)) i []) (one_less n ∙ sym (length-phis n)) ∙ get_or-append_seam (phis n) new [] [] ∙ ap (λ g. quotient_by whole_numbers g (power_less_one (suc n))) (over_cong (member (phis n)) phi (suc n) n (phis_member n))
  where
    new : List ℤ
    new = quotient_by whole_numbers (over_divisors lists (member (phis n)) (suc n) n) (power_less_one (suc n))

-- ---- they are the family
abbrev pub phi_poly : ℕ → WholePoly
phi_poly d = as_poly (phi d)

abbrev minus_one : ℕ → WholePoly
minus_one m = less whole_polys.ops (power whole_polys.ops indeterminate m) whole_polys.one

pub record IsFamily (n : ℕ) : Type 0 where
  pub good : Good whole_polys indeterminate whole_monics phi_poly n
  pub monic : (i : ℕ) → i < n → MonicList (phi (suc i))

-- division by a monic list finds the factor
quotient_is_factor : (g f : List ℤ) (M : MonicList g) (h : WholePoly) → as_poly f ≡ whole_polys.mul (as_poly g) h → as_poly (quotient_by whole_numbers g f) ≡ h
quotient_is_factor g f M h e = same whole_numbers (fun_ext (quotient-digits whole_ring g M f) ∙ sym (∥∥₁_elim h.1 (Π_set (λ i. ℤ_set) h.0 found) (λ (l, b). quotient_only whole_ring (deg g) (l + k) (coeff whole_numbers g) (coeff whole_numbers f) h.0 (zeros whole_numbers) found (coeff whole_numbers (remainder whole_numbers g f)) (monic_series whole_ring g M) (Below-more whole_ring l (l + k) h.0 (omega arith) b) (Below-more whole_ring k (l + k) found (omega arith) (Below-coeff whole_numbers (quotient_digits whole_numbers g f))) given (divides whole_ring g M f))))
  where
    found : ℕ → ℤ
    found = coeff whole_numbers (quotient_digits whole_numbers g f)

    k : ℕ
    k = length (quotient_digits whole_numbers g f)

    given : IsDivision whole_numbers (deg g) (coeff whole_numbers g) (coeff whole_numbers f) h.0 (zeros whole_numbers)
    given = record { small = λ i l. refl; sum_is = λ i. add_zero whole_ring (product whole_numbers h.0 (coeff whole_numbers g) i) ∙ product_comm whole_ring h.0 (coeff whole_numbers g) i ∙ sym (ap (λ p. p.0 i) e) }

family : (n : ℕ) → IsFamily n
family zero = record { good = record { law = λ k l. absurd (omega arith); monic = λ k l. absurd (omega arith) }; monic = λ i l. absurd (omega arith) }
family (suc n) = go (family n)
  where
    D : List ℤ
    D = over_divisors lists phi (suc n) n

    F : List ℤ
    F = power_less_one (suc n)

    go : IsFamily n → IsFamily (suc n)
    go s = record { good = good; monic = λ i l. each i (eq-or-lt_of_le (under i l)) }
      where
        under : (i : ℕ) → i < suc n → i ≤ n
        under i l = omega arith

        D_monic : MonicList D
        D_monic = over_monic phi (suc n) n s.monic

        D_poly : as_poly D ≡ over_divisors whole_polys.ops phi_poly (suc n) n
        D_poly = as_poly-over phi (suc n) n

        divisor : Divides whole_polys.ops (over_divisors whole_polys.ops phi_poly (suc n) n) (minus_one (suc n))
        divisor = partial_divides whole_polys indeterminate whole_monics phi_poly n (suc n) n s.good (omega arith) (omega arith)

        factor : as_poly (phi (suc n)) ≡ divisor.0
        factor = ap as_poly (phi_next n) ∙ quotient_is_factor D F D_monic divisor.0 (as_poly-minus (suc n) ∙ divisor.1 ∙ ap (λ z. whole_polys.mul z divisor.0) (sym D_poly))

        product_is : whole_polys.mul (over_divisors whole_polys.ops phi_poly (suc n) n) (phi_poly (suc n)) ≡ minus_one (suc n)
        product_is = ap (whole_polys.mul (over_divisors whole_polys.ops phi_poly (suc n) n)) factor ∙ sym divisor.1

        good : Good whole_polys indeterminate whole_monics phi_poly (suc n)
        good = family_next whole_polys indeterminate whole_monics phi_poly n s.good product_is

        degrees : (deg D ≤ suc n) × Monic whole_numbers (suc n - deg D) (coeff whole_numbers (phi (suc n)))
        degrees = factor_monic whole_ring ℤ_set (deg D) (suc n) (as_poly D) (as_poly (phi (suc n))) zero_apart (monic_series whole_ring D D_monic) (subst (λ p. Monic whole_numbers (suc n) p.0) (sym (ap (λ z. whole_polys.mul z (phi_poly (suc n))) D_poly ∙ product_is)) (Monic-minus (suc n) (omega arith)))

        long : length (phi (suc n)) ≡ suc (suc n) - deg D
        long = ap length (phi_next n) ∙ length-quotient_by whole_numbers D F ∙ ap (λ z. z - deg D) (length-power_less_one (suc n))

        own : MonicList (phi (suc n))
        own = record {
          filled = omega (arith, long, degrees.0);
          top = ap (coeff whole_numbers (phi (suc n))) (let e : deg (phi (suc n)) ≡ suc n - deg D = omega (arith, long, degrees.0) in e) ∙ degrees.1.top;
        }

        each : (i : ℕ) → (i ≡ n) ⊎ (i < n) → MonicList (phi (suc i))
        each i (inl e) = subst (λ k. MonicList (phi (suc k))) (sym e) own
        each i (inr l) = s.monic i l

pub phi_good : (n : ℕ) → Good whole_polys indeterminate whole_monics phi_poly n
phi_good n = (family n).good

pub phi_monic : (k : ℕ) → MonicList (phi (suc k))
phi_monic k = (family (suc k)).monic k (omega arith)

-- the product over the divisors of m is X^m - 1
pub phi_product : (k : ℕ) → over_divisors lists phi (suc k) (suc k) ≡ power_less_one (suc k)
phi_product k = same_list whole_numbers P F (omega (arith, degrees, length-power_less_one (suc k), P_monic.filled)) (λ i. ap (λ p. p.0 i) polys)
  where
    P : List ℤ
    P = over_divisors lists phi (suc k) (suc k)

    F : List ℤ
    F = power_less_one (suc k)

    P_monic : MonicList P
    P_monic = over_monic phi (suc k) (suc k) (λ i l. phi_monic i)

    polys : as_poly P ≡ as_poly F
    polys = as_poly-over phi (suc k) (suc k) ∙ (phi_good (suc k)).law k (omega arith) ∙ sym (as_poly-minus (suc k))

    degrees : deg P ≡ suc k
    degrees = monic_degree (deg P) (suc k) (coeff whole_numbers P) (monic_series whole_ring P P_monic) (subst (λ p. Monic whole_numbers (suc k) p.0) (sym (polys ∙ as_poly-minus (suc k))) (Monic-minus (suc k) (omega arith)))

-- the degree of Phi_m is the number of units modulo m
pub phi_degree : (k : ℕ) → degree (suc k) ≡ number_of_units (suc k)
phi_degree k = below (suc k) k (omega arith)
  where
    sums : (k : ℕ) → total counts (suc k) (λ i. cond (is_divisor (suc i) (suc k)) (degree (suc i)) 0) ≡ suc k
    sums k = sym (over_degree phi (suc k) (suc k) (λ i l. phi_monic i)) ∙ ap deg (phi_product k) ∙ omega (arith, length-power_less_one (suc k))

    below : (n k : ℕ) → k < n → degree (suc k) ≡ number_of_units (suc k)
    below zero k l = absurd (omega arith)
    below (suc n) k l = own (λ i s. below n i (omega arith))
      where
        own : ((i : ℕ) → i < k → degree (suc i) ≡ number_of_units (suc i)) → degree (suc k) ≡ number_of_units (suc k)
        own r = add_left_cancel (total counts k (λ i. cond (is_divisor (suc i) (suc k)) (number_of_units (suc i)) 0)) (ap₂ (λ y z. y + z) (sym earlier) (last (degree (suc k))) ∙ sums k ∙ sym (sum_of_units (suc k) (omega arith)) ∙ ap (λ z. total counts k (λ i. cond (is_divisor (suc i) (suc k)) (number_of_units (suc i)) 0) + z) (sym (last (number_of_units (suc k)))))
          where
            last : (z : ℕ) → z ≡ cond (is_divisor (suc k) (suc k)) z 0
            last z = sym (ap (λ b. cond b z 0) (divisor_yes (suc k) (suc k) (Dvd_refl (suc k))))

            earlier : total counts k (λ i. cond (is_divisor (suc i) (suc k)) (degree (suc i)) 0) ≡ total counts k (λ i. cond (is_divisor (suc i) (suc k)) (number_of_units (suc i)) 0)
            earlier = total_cong counts count_laws k (λ i. cond (is_divisor (suc i) (suc k)) (degree (suc i)) 0) (λ i. cond (is_divisor (suc i) (suc k)) (number_of_units (suc i)) 0) (λ i l. ap (λ z. cond (is_divisor (suc i) (suc k)) z 0) (r i l))

-- any lists with these products are these
pub phi_only : (psi : ℕ → List ℤ) (n : ℕ) → ((k : ℕ) → k < n → SameCoeffs whole_numbers (over_divisors lists psi (suc k) (suc k)) (power_less_one (suc k))) → (k : ℕ) → k < n → SameCoeffs whole_numbers (psi (suc k)) (phi (suc k))
phi_only psi n h k l i = ap (λ p. p.0 i) (only_family whole_polys indeterminate whole_monics phi_poly n (λ d. as_poly (psi d)) (phi_good n) law k l)
  where
    law : (k : ℕ) → k < n → IsProductAt whole_polys.ops indeterminate (λ d. as_poly (psi d)) (suc k)
    law k l = sym (as_poly-over psi (suc k) (suc k)) ∙ same whole_numbers (fun_ext (h k l)) ∙ as_poly-minus (suc k)
