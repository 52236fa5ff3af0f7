-- The substitutions a(X^k) of R for units k: they keep the operations, compose by products, and hang on k modulo m alone.
use Rattle.std.specs.Prelude.{◌≡◌, ℕ, zero, suc, ◌+◌, ◌-◌, ◌*◌, ◌/◌, ◌%◌, ◌<◌, ◌≤◌, ◌⊎◌, true, false, List, [], ◌∷◌, length, ℤ, pos, refl}
use Rattle.std.proofs.Common.{sym, ◌∙◌, ap, subst, arith, inl, inr, mul-pos, mul_comm, eq-eqb, div-add-mod', mod-lt, subst₂}
use Rattle.std.proofs.lemmas.Bool.{cases_lt}
use mathlib.Core.Path.{fun_ext}
use Rattle.algebra.specs.Ring.{whole_numbers}
use Rattle.algebra.specs.Hom.{Hom}
use Rattle.algebra.specs.Power.{less, power, Divides}
use Rattle.algebra.specs.Divisor.{Dvd, is_divisor, HasInverse}
use Rattle.algebra.specs.Series.{Series, spread}
use Rattle.algebra.specs.Poly.{coeff, plus, times, at_power}
use Rattle.algebra.proofs.Divisors.{divisor_cases, divisor_of_test, Dvd_trans, Dvd_unscaled}
use Rattle.algebra.proofs.Units.{inverse_of_unit}
use Rattle.algebra.proofs.Integers.{whole_ring}
use Rattle.algebra.proofs.Powers.{Divides_trans, power-add, power_divides}
use Rattle.algebra.proofs.Polynomials.{same, constant}
use Rattle.algebra.proofs.Spread.{spread_at, spread_other, spread-const, at_power-X}
use Rattle.algebra.proofs.Spread as over
use Rattle.algebra.proofs.Lists.{Below-coeff, length-plus}
use Rattle.algebra.proofs.Quotients.{quotient_laws}
use Rattle.algebra.specs.Expression.{◌:*◌, ◌:-◌, :0, :1}
use Rattle.algebra.proofs.Solver.{solve2}
use Rattle.cyclotomic.specs.Cyclotomic.{phi, R, IsElement, substituted}
use Rattle.cyclotomic.specs.CyclotomicLaws.{PhiDividesImage, RIsRing, SubstitutionKeepsOperations, SubstitutionsCompose, SubstitutionByResidue, SubstitutionByOne}
use Rattle.cyclotomic.proofs.WholePolys.{WholePoly, whole_polys, indeterminate}
use Rattle.cyclotomic.proofs.NormLaws.{split_is}
use Rattle.cyclotomic.proofs.Modulo.{Alike, Alike_of_path, Alike_sym, Alike_trans, Alike_add, Alike_mul}
use Rattle.cyclotomic.proofs.PhiLists.{as_poly, as_poly-plus, as_poly_one, phi_poly, phi_monic}
use Rattle.cyclotomic.proofs.RingR.{alike, phi_divides, phi_divides_image, fold_alike, fold_element, element_same, alike_fold, as_poly-at_power, product_alike, substituted_alike, image_alike}

-- ---- f(X^k)(X^j) is f(X^(k j))
spread_twice : (j k : ℕ) → 0 < j → 0 < k → (f : Series ℤ) (i : ℕ) → spread whole_numbers j (spread whole_numbers k f) i ≡ spread whole_numbers (k * j) f i
spread_twice j k p q f i = go (divisor_cases j i)
  where
    both : 0 < k * j
    both = mul-pos q p

    none : (n i : ℕ) → 0 < n → (Dvd n i → ⊥) → (g : Series ℤ) → spread whole_numbers n g i ≡ pos 0
    none n i r h g = spread_other whole_ring n r g i (λ e. h (divisor_of_test n i (eq-eqb (i % n) 0 e)))

    at : (t : ℕ) → i ≡ t * j → (((is_divisor k t ≡ true) × Dvd k t) ⊎ ((is_divisor k t ≡ false) × (Dvd k t → ⊥))) → spread whole_numbers j (spread whole_numbers k f) i ≡ spread whole_numbers (k * j) f i
    at t e (inl (y, (s, d))) = ap (spread whole_numbers j (spread whole_numbers k f)) (e ∙ mul_comm t j) ∙ spread_at whole_ring j p (spread whole_numbers k f) t ∙ ap (spread whole_numbers k f) (d ∙ mul_comm s k) ∙ spread_at whole_ring k q f s ∙ sym (spread_at whole_ring (k * j) both f s) ∙ sym (ap (spread whole_numbers (k * j) f) (e ∙ ap (λ z. z * j) d ∙ regroup s))
      where
        regroup : (s : ℕ) → s * k * j ≡ k * j * s
        regroup s = omega arith
    at t e (inr (y, h)) = ap (spread whole_numbers j (spread whole_numbers k f)) (e ∙ mul_comm t j) ∙ spread_at whole_ring j p (spread whole_numbers k f) t ∙ none k t q h f ∙ sym (none (k * j) i both (λ d. h (Dvd_unscaled j k t p (subst₂ Dvd (mul_comm k j) (e ∙ mul_comm t j) d))) f)

    go : ((is_divisor j i ≡ true) × Dvd j i) ⊎ ((is_divisor j i ≡ false) × (Dvd j i → ⊥)) → spread whole_numbers j (spread whole_numbers k f) i ≡ spread whole_numbers (k * j) f i
    go (inl (y, (t, e))) = at t e (divisor_cases k t)
    go (inr (y, h)) = none j i p h (spread whole_numbers k f) ∙ sym (none (k * j) i both (λ d. h (Dvd_trans j (k * j) i (k, refl) d)) f)

spread_one : (f : Series ℤ) (i : ℕ) → spread whole_numbers 1 f i ≡ f i
spread_one f i = ap (spread whole_numbers 1 f) (let e : i ≡ 1 * i = omega arith in e) ∙ spread_at whole_ring 1 (omega arith) f i

-- ---- maps of polynomials that are equal at the constants and alike at X are alike
as_poly-cons : (a : ℤ) (f : List ℤ) → as_poly (a ∷ f) ≡ whole_polys.add (constant whole_ring a) (whole_polys.mul indeterminate (as_poly f))
as_poly-cons a f = split_is (length f) (coeff whole_numbers (a ∷ f)) (Below-coeff whole_numbers (a ∷ f)) ∙ ap (λ z. whole_polys.add (constant whole_ring a) (whole_polys.mul indeterminate z)) (same whole_numbers refl)

homs_alike : (g : WholePoly) (F G : Hom whole_polys whole_polys) → ((a : ℤ) → F.map (constant whole_ring a) ≡ G.map (constant whole_ring a)) → Alike whole_polys g (F.map indeterminate) (G.map indeterminate) → (f : List ℤ) → Alike whole_polys g (F.map (as_poly f)) (G.map (as_poly f))
homs_alike g F G c x [] = Alike_of_path whole_polys g (F.map (as_poly [])) (G.map (as_poly [])) (ap F.map empty ∙ c (pos 0) ∙ sym (ap G.map empty))
  where
    empty : as_poly [] ≡ constant whole_ring (pos 0)
    empty = same whole_numbers (fun_ext zeros_at)
      where
        zeros_at : (i : ℕ) → coeff whole_numbers [] i ≡ (constant whole_ring (pos 0)).0 i
        zeros_at zero = refl
        zeros_at (suc i) = refl
homs_alike g F G c x (a ∷ f) = subst₂ (Alike whole_polys g) (sym (parts F)) (sym (parts G)) (Alike_add whole_polys g (F.map (constant whole_ring a)) (G.map (constant whole_ring a)) (whole_polys.mul (F.map indeterminate) (F.map (as_poly f))) (whole_polys.mul (G.map indeterminate) (G.map (as_poly f))) (Alike_of_path whole_polys g (F.map (constant whole_ring a)) (G.map (constant whole_ring a)) (c a)) (Alike_mul whole_polys g (F.map indeterminate) (G.map indeterminate) (F.map (as_poly f)) (G.map (as_poly f)) x (homs_alike g F G c x f)))
  where
    parts : (H : Hom whole_polys whole_polys) → H.map (as_poly (a ∷ f)) ≡ whole_polys.add (H.map (constant whole_ring a)) (whole_polys.mul (H.map indeterminate) (H.map (as_poly f)))
    parts H = ap H.map (as_poly-cons a f) ∙ H.map_add (constant whole_ring a) (whole_polys.mul indeterminate (as_poly f)) ∙ ap (whole_polys.add (H.map (constant whole_ring a))) (H.map_mul indeterminate (as_poly f))

-- exponents that differ by a multiple of m
exponents_alike : (k j t : ℕ) → alike k (power whole_polys.ops indeterminate (j + suc k * t)) (power whole_polys.ops indeterminate j)
exponents_alike k j t = Divides_trans whole_polys (phi_poly (suc k)) (minus (suc k)) (less whole_polys.ops (power whole_polys.ops indeterminate (j + suc k * t)) (power whole_polys.ops indeterminate j)) (phi_divides k) (Divides_trans whole_polys (minus (suc k)) (minus (suc k * t)) (less whole_polys.ops (power whole_polys.ops indeterminate (j + suc k * t)) (power whole_polys.ops indeterminate j)) (power_divides whole_polys indeterminate (suc k) t) (power whole_polys.ops indeterminate j, ap (λ z. less whole_polys.ops z (power whole_polys.ops indeterminate j)) (power-add whole_polys indeterminate j (suc k * t)) ∙ solve2 whole_polys (λ a b. a :* b :- a) (λ a b. (b :- :1) :* a) refl (power whole_polys.ops indeterminate j) (power whole_polys.ops indeterminate (suc k * t))))
  where
    minus : ℕ → WholePoly
    minus n = less whole_polys.ops (power whole_polys.ops indeterminate n) whole_polys.one

abbrev image : (j : ℕ) → 0 < j → WholePoly → WholePoly
image j p f = (over.at_power whole_ring j p).map f

more_alike : (k j t : ℕ) (p : 0 < j) (q : 0 < j + suc k * t) (a : List ℤ) → alike k (image (j + suc k * t) q (as_poly a)) (image j p (as_poly a))
more_alike k j t p q a = homs_alike (phi_poly (suc k)) (over.at_power whole_ring (j + suc k * t) q) (over.at_power whole_ring j p) (λ c. same whole_numbers (fun_ext (λ i. spread-const whole_ring (j + suc k * t) q c i ∙ sym (spread-const whole_ring j p c i)))) (subst₂ (alike k) (sym (at_power-X whole_ring (j + suc k * t) q)) (sym (at_power-X whole_ring j p)) (exponents_alike k j t)) a

-- ---- the laws for lists
-- an element is known up to a multiple of Phi_m
from_alike : (k : ℕ) (p : WholePoly) (a b : List ℤ) → IsElement (suc k) a → IsElement (suc k) b → alike k p (as_poly a) → alike k p (as_poly b) → a ≡ b
from_alike k p a b e f h l = element_same k a b e f (Alike_trans whole_polys (phi_poly (suc k)) (as_poly a) p (as_poly b) (Alike_sym whole_polys (phi_poly (suc k)) p (as_poly a) h) l)

substituted_element : (m j : ℕ) (a : List ℤ) → IsElement m (substituted m j a)
substituted_element m j a = fold_element m (at_power whole_numbers j a)

pub phi_divides_image_list : PhiDividesImage
phi_divides_image_list zero j p q u = absurd (omega arith)
phi_divides_image_list (suc k) j p q u = alike_fold k (at_power whole_numbers j (phi (suc k))) [] (subst (λ z. alike k z (as_poly [])) (sym (as_poly-at_power j q (phi (suc k)))) zero_alike)
  where
    zero_alike : alike k (image j q (phi_poly (suc k))) (as_poly [])
    zero_alike = (into.0, ap (less whole_polys.ops (image j q (phi_poly (suc k)))) empty ∙ solve2 whole_polys (λ p z. p :- :0) (λ p z. p) refl (image j q (phi_poly (suc k))) whole_polys.zero ∙ into.1)
      where
        empty : as_poly [] ≡ whole_polys.zero
        empty = same whole_numbers refl

        into : Divides whole_polys.ops (phi_poly (suc k)) ((over.at_power whole_ring j q).map (phi_poly (suc k)))
        into = phi_divides_image k j q (inverse_of_unit (suc k) j p q u)

pub ring_laws : RIsRing
ring_laws zero p = absurd (omega arith)
ring_laws (suc k) p = quotient_laws whole_ring (phi (suc k)) (phi_monic k)

pub substitution_keeps : SubstitutionKeepsOperations
substitution_keeps zero j p q u = absurd (omega arith)
substitution_keeps (suc k) j p q u = record { one = one; sum = sum; product = product }
  where
    unit : HasInverse (suc k) j
    unit = inverse_of_unit (suc k) j p q u

    F : Hom whole_polys whole_polys
    F = over.at_power whole_ring j q

    one : substituted (suc k) j (R (suc k)).one ≡ (R (suc k)).one
    one = from_alike k (as_poly (pos 1 ∷ [])) (substituted (suc k) j (R (suc k)).one) (R (suc k)).one (substituted_element (suc k) j (R (suc k)).one) (fold_element (suc k) (pos 1 ∷ [])) (Alike_trans whole_polys (phi_poly (suc k)) (as_poly (pos 1 ∷ [])) (F.map (as_poly (R (suc k)).one)) (as_poly (substituted (suc k) j (R (suc k)).one)) (subst (λ z. alike k z (F.map (as_poly (R (suc k)).one))) (ap F.map as_poly_one ∙ F.map_one ∙ sym as_poly_one) (image_alike k j q unit (as_poly (pos 1 ∷ [])) (as_poly (R (suc k)).one) (fold_alike k (pos 1 ∷ [])))) (substituted_alike k j q (R (suc k)).one)) (fold_alike k (pos 1 ∷ []))

    sum : (a b : List ℤ) → IsElement (suc k) a → IsElement (suc k) b → substituted (suc k) j ((R (suc k)).add a b) ≡ (R (suc k)).add (substituted (suc k) j a) (substituted (suc k) j b)
    sum a b e f = from_alike k (F.map (as_poly (plus whole_numbers a b))) (substituted (suc k) j (plus whole_numbers a b)) (plus whole_numbers (substituted (suc k) j a) (substituted (suc k) j b)) (substituted_element (suc k) j (plus whole_numbers a b)) (omega (arith, length-plus whole_numbers (substituted (suc k) j a) (substituted (suc k) j b), substituted_element (suc k) j a, substituted_element (suc k) j b)) (substituted_alike k j q (plus whole_numbers a b)) (subst₂ (alike k) (sym (ap F.map (as_poly-plus a b) ∙ F.map_add (as_poly a) (as_poly b))) (sym (as_poly-plus (substituted (suc k) j a) (substituted (suc k) j b))) (Alike_add whole_polys (phi_poly (suc k)) (F.map (as_poly a)) (as_poly (substituted (suc k) j a)) (F.map (as_poly b)) (as_poly (substituted (suc k) j b)) (substituted_alike k j q a) (substituted_alike k j q b)))

    product : (a b : List ℤ) → IsElement (suc k) a → IsElement (suc k) b → substituted (suc k) j ((R (suc k)).mul a b) ≡ (R (suc k)).mul (substituted (suc k) j a) (substituted (suc k) j b)
    product a b e f = from_alike k (whole_polys.mul (F.map (as_poly a)) (F.map (as_poly b))) (substituted (suc k) j ((R (suc k)).mul a b)) ((R (suc k)).mul (substituted (suc k) j a) (substituted (suc k) j b)) (substituted_element (suc k) j ((R (suc k)).mul a b)) (fold_element (suc k) (times whole_numbers (substituted (suc k) j a) (substituted (suc k) j b))) (Alike_trans whole_polys (phi_poly (suc k)) (whole_polys.mul (F.map (as_poly a)) (F.map (as_poly b))) (F.map (as_poly ((R (suc k)).mul a b))) (as_poly (substituted (suc k) j ((R (suc k)).mul a b))) (subst (λ z. alike k z (F.map (as_poly ((R (suc k)).mul a b)))) (F.map_mul (as_poly a) (as_poly b)) (image_alike k j q unit (whole_polys.mul (as_poly a) (as_poly b)) (as_poly ((R (suc k)).mul a b)) (product_alike k a b))) (substituted_alike k j q ((R (suc k)).mul a b))) (Alike_trans whole_polys (phi_poly (suc k)) (whole_polys.mul (F.map (as_poly a)) (F.map (as_poly b))) (whole_polys.mul (as_poly (substituted (suc k) j a)) (as_poly (substituted (suc k) j b))) (as_poly ((R (suc k)).mul (substituted (suc k) j a) (substituted (suc k) j b))) (Alike_mul whole_polys (phi_poly (suc k)) (F.map (as_poly a)) (as_poly (substituted (suc k) j a)) (F.map (as_poly b)) (as_poly (substituted (suc k) j b)) (substituted_alike k j q a) (substituted_alike k j q b)) (product_alike k (substituted (suc k) j a) (substituted (suc k) j b)))

pub substitutions_compose : SubstitutionsCompose
substitutions_compose zero i j a p q r u = absurd (omega arith)
substitutions_compose (suc k) i j a p q r u = from_alike k (F.map (G.map (as_poly a))) (substituted (suc k) i (substituted (suc k) j a)) (substituted (suc k) (j * i) a) (substituted_element (suc k) i (substituted (suc k) j a)) (substituted_element (suc k) (j * i) a) (Alike_trans whole_polys (phi_poly (suc k)) (F.map (G.map (as_poly a))) (F.map (as_poly (substituted (suc k) j a))) (as_poly (substituted (suc k) i (substituted (suc k) j a))) (image_alike k i q (inverse_of_unit (suc k) i p q u) (G.map (as_poly a)) (as_poly (substituted (suc k) j a)) (substituted_alike k j r a)) (substituted_alike k i q (substituted (suc k) j a))) (subst (λ z. alike k z (as_poly (substituted (suc k) (j * i) a))) (sym (same whole_numbers (fun_ext (spread_twice i j q r (coeff whole_numbers a))))) (substituted_alike k (j * i) (mul-pos r q) a))
  where
    F : Hom whole_polys whole_polys
    F = over.at_power whole_ring i q

    G : Hom whole_polys whole_polys
    G = over.at_power whole_ring j r

pub substitution_by_residue : SubstitutionByResidue
substitution_by_residue zero i j a p q r e = absurd (omega arith)
substitution_by_residue (suc k) i j a p q r e = go (cases_lt i j)
  where
    -- the greater exponent is a multiple of m more
    smaller : (i j : ℕ) (q : 0 < i) (r : 0 < j) → i ≤ j → i % suc k ≡ j % suc k → substituted (suc k) i a ≡ substituted (suc k) j a
    smaller i j q r l e = from_alike k (image i q (as_poly a)) (substituted (suc k) i a) (substituted (suc k) j a) (substituted_element (suc k) i a) (substituted_element (suc k) j a) (first i q) (Alike_trans whole_polys (phi_poly (suc k)) (image i q (as_poly a)) (image (i + suc k * t) s (as_poly a)) (as_poly (substituted (suc k) j a)) (Alike_sym whole_polys (phi_poly (suc k)) (image (i + suc k * t) s (as_poly a)) (image i q (as_poly a)) (more_alike k i t q s a)) (subst (λ n. alike k (image (i + suc k * t) s (as_poly a)) (as_poly (substituted (suc k) n a))) (sym exponent) (first (i + suc k * t) s)))
      where
        t : ℕ
        t = j / suc k - i / suc k

        exponent : j ≡ i + suc k * t
        exponent = difference (i / suc k) (j / suc k) (i % suc k) (j % suc k) (div-add-mod' i (suc k)) (div-add-mod' j (suc k)) e (mod-lt i p)
          where
            difference : (x y u v : ℕ) → x * suc k + u ≡ i → y * suc k + v ≡ j → u ≡ v → u < suc k → j ≡ i + suc k * (y - x)
            difference x y u v f g h b = cases (cases_lt y x)
              where
                cases : (y < x) ⊎ (x ≤ y) → j ≡ i + suc k * (y - x)
                cases (inr w) = fill (y - x) (let o : y ≡ x + (y - x) = omega arith in o)
                  where
                    fill : (d : ℕ) → y ≡ x + d → j ≡ i + suc k * d
                    fill d o = omega (arith, ap (λ z. z * suc k) o)
                cases (inl w) = absurd (short (x - y - 1) (let o : x ≡ y + 1 + (x - y - 1) = omega arith in o))
                  where
                    short : (d : ℕ) → x ≡ y + 1 + d → ⊥
                    short d o = omega (arith, ap (λ z. z * suc k) o)

        s : 0 < i + suc k * t
        s = omega arith

        first : (n : ℕ) (w : 0 < n) → alike k (image n w (as_poly a)) (as_poly (substituted (suc k) n a))
        first n w = substituted_alike k n w a

    go : (i < j) ⊎ (j ≤ i) → substituted (suc k) i a ≡ substituted (suc k) j a
    go (inl l) = smaller i j q r (omega arith) e
    go (inr l) = sym (smaller j i r q l (sym e))

pub substitution_by_one : SubstitutionByOne
substitution_by_one zero a p e = absurd (omega arith)
substitution_by_one (suc k) a p e = from_alike k (as_poly a) (substituted (suc k) 1 a) a (substituted_element (suc k) 1 a) e (subst (λ z. alike k z (as_poly (substituted (suc k) 1 a))) (same whole_numbers (fun_ext (spread_one (coeff whole_numbers a)))) (substituted_alike k 1 (omega arith) a)) (Alike_of_path whole_polys (phi_poly (suc k)) (as_poly a) (as_poly a) refl)
