-- The remainder by Phi_m of a(X^k), as a sum over the places of a, and what one more term at a place does to a remainder.
use Rattle.std.specs.Prelude.{Bool, eqb, ◌≡◌, ℕ, zero, suc, ◌+◌, ◌*◌, ◌/◌, ◌%◌, ◌<◌, List, [], ◌∷◌, map, length, get_or, set, ℤ, pos, ◌+ℤ◌, refl}
use Rattle.std.proofs.Common.{sym, ◌∙◌, ap, ap₂, subst₂, arith, div-add-mod', mul_comm}
use Rattle.std.proofs.lemmas.List.{length-map}
use mathlib.Core.Path.{fun_ext}
use Rattle.algebra.specs.Ring.{CommRing, whole_numbers}
use Rattle.algebra.specs.Hom.{Hom}
use Rattle.algebra.specs.Divisor.{UnitModulo}
use Rattle.algebra.specs.Power.{power, less}
use Rattle.algebra.specs.Range.{total, adds}
use Rattle.algebra.specs.Poly.{coeff, plus, scaled, times, monomial, at_power}
use Rattle.algebra.proofs.Basic.{add_zero, mul_one, mul_zero, zero_mul}
use Rattle.algebra.proofs.Held.{same_held}
use Rattle.algebra.proofs.HeldLists.{held_preserves}
use Rattle.algebra.proofs.Homs.{preserves, keeps_adds}
use Rattle.algebra.proofs.Integers.{whole_ring}
use Rattle.algebra.proofs.Lists.{coeff-plus, coeff-scaled}
use Rattle.algebra.proofs.Maps.{map_coeff}
use Rattle.algebra.proofs.Powers.{power-add, power-mul, power_divides, Divides_trans}
use Rattle.algebra.proofs.Quotients.{quotient_ring, quotient_laws, reduce, reduce-plus, reduce-times, remainder_same, remainder-plus, remainder-scaled, number-add, number-mul}
use Rattle.algebra.specs.Expression.{◌:*◌, ◌:-◌, :1}
use Rattle.algebra.proofs.Solver.{solve2}
use Rattle.algebra.proofs.Spread as over
use Rattle.algebra.proofs.Units.{inverse_of_unit}
use Rattle.algebra.proofs.Values.{value, value_at_is, value-scaled, value-monomial, value-substituted}
use Rattle.cyclotomic.specs.Cyclotomic.{phi, degree, R, fold, substituted, multiple}
use Rattle.cyclotomic.proofs.Modulo.{Alike_sym, Alike_trans}
use Rattle.cyclotomic.proofs.PhiLaws.{phi_is_monic}
use Rattle.cyclotomic.proofs.PhiLists.{as_poly, as_poly-monomial, phi_poly}
use Rattle.cyclotomic.proofs.RingR.{alike, phi_divides, alike_fold, fold_alike, fold_element, element_same, substituted_alike, image_alike}
use Rattle.cyclotomic.proofs.WholePolys.{WholePoly, whole_polys, indeterminate}

-- ---- powers of X modulo Phi_m hang on the exponent modulo m
powers_alike : (k j t : ℕ) → alike k (power whole_polys.ops indeterminate (j + suc k * t)) (power whole_polys.ops indeterminate j)
powers_alike k j t = Divides_trans whole_polys (phi_poly (suc k)) (minus (suc k)) (less whole_polys.ops (power whole_polys.ops indeterminate (j + suc k * t)) (power whole_polys.ops indeterminate j)) (phi_divides k) (Divides_trans whole_polys (minus (suc k)) (minus (suc k * t)) (less whole_polys.ops (power whole_polys.ops indeterminate (j + suc k * t)) (power whole_polys.ops indeterminate j)) (power_divides whole_polys indeterminate (suc k) t) (power whole_polys.ops indeterminate j, ap (λ z. less whole_polys.ops z (power whole_polys.ops indeterminate j)) (power-add whole_polys indeterminate j (suc k * t)) ∙ solve2 whole_polys (λ a b. a :* b :- a) (λ a b. (b :- :1) :* a) refl (power whole_polys.ops indeterminate j) (power whole_polys.ops indeterminate (suc k * t))))
  where
    minus : ℕ → WholePoly
    minus n = less whole_polys.ops (power whole_polys.ops indeterminate n) whole_polys.one

pub monomial_residue : (m n : ℕ) → 0 < m → fold m (monomial whole_numbers n) ≡ fold m (monomial whole_numbers (n % m))
monomial_residue zero n p = absurd (omega (arith, p))
monomial_residue (suc k) n p = ap (λ i. fold (suc k) (monomial whole_numbers i)) split ∙ alike_fold k (monomial whole_numbers (n % suc k + suc k * (n / suc k))) (monomial whole_numbers (n % suc k)) (subst₂ (alike k) (sym (as_poly-monomial (n % suc k + suc k * (n / suc k)))) (sym (as_poly-monomial (n % suc k))) (powers_alike k (n % suc k) (n / suc k)))
  where
    split : n ≡ n % suc k + suc k * (n / suc k)
    split = sym (div-add-mod' n (suc k)) ∙ turn (n / suc k) (n % suc k)
      where
        turn : (q r : ℕ) → q * suc k + r ≡ r + suc k * q
        turn q r = omega arith

-- a(X^k), for a unit k, sees the remainder of a alone
pub substituted_fold : (m k : ℕ) → 0 < m → 0 < k → UnitModulo m k → (a : List ℤ) → substituted m k (fold m a) ≡ substituted m k a
substituted_fold zero j p q u a = absurd (omega (arith, p))
substituted_fold (suc k) j p q u a = sym (element_same k (substituted (suc k) j a) (substituted (suc k) j (fold (suc k) a)) (fold_element (suc k) (at_power whole_numbers j a)) (fold_element (suc k) (at_power whole_numbers j (fold (suc k) a))) (Alike_trans whole_polys g (as_poly (substituted (suc k) j a)) (image (as_poly a)) (as_poly (substituted (suc k) j (fold (suc k) a))) (Alike_sym whole_polys g (image (as_poly a)) (as_poly (substituted (suc k) j a)) (substituted_alike k j q a)) (Alike_trans whole_polys g (image (as_poly a)) (image (as_poly (fold (suc k) a))) (as_poly (substituted (suc k) j (fold (suc k) a))) (image_alike k j q (inverse_of_unit (suc k) j p q u) (as_poly a) (as_poly (fold (suc k) a)) (fold_alike k a)) (substituted_alike k j q (fold (suc k) a)))))
  where
    g : WholePoly
    g = phi_poly (suc k)

    image : WholePoly → WholePoly
    image = (over.at_power whole_ring j q).map

-- ---- one more term
-- the place j of L grows by v
pub set_place : (L : List ℤ) (j : ℕ) (v : ℤ) → j < length L → set L j (get_or L j (pos 0) +ℤ v) ≡ plus whole_numbers L (scaled whole_numbers v (monomial whole_numbers j))
set_place [] j v l = absurd (omega (arith, l))
set_place (x ∷ []) zero v l = ap (λ z. (x +ℤ z) ∷ []) (sym (mul_one whole_ring v))
set_place (x ∷ y ∷ L) zero v l = ap (λ z. (x +ℤ z) ∷ y ∷ L) (sym (mul_one whole_ring v))
set_place (x ∷ L) (suc j) v l = ap₂ (λ y z. y ∷ z) (sym (ap (λ z. x +ℤ z) (mul_zero whole_ring v) ∙ add_zero whole_ring x)) (set_place L j v (omega (arith, l)))

-- coefficient i of a, times the remainder of X^(i k mod m)
abbrev pub place_term : ℕ → ℕ → List ℤ → ℕ → List ℤ
place_term m k a i = multiple (coeff whole_numbers a i) (fold m (monomial whole_numbers ((i * k) % m)))

module _ (m : ℕ) (m_pos : 0 < m) where
  pub fold_place : (L : List ℤ) (j : ℕ) (v : ℤ) → j < length L → fold m (set L j (get_or L j (pos 0) +ℤ v)) ≡ (R m).add (fold m L) (multiple v (fold m (monomial whole_numbers j)))
  fold_place L j v l = ap (fold m) (set_place L j v l) ∙ remainder-plus whole_ring (phi m) (phi_is_monic m m_pos) L (scaled whole_numbers v (monomial whole_numbers j)) ∙ ap (plus whole_numbers (fold m L)) (remainder-scaled whole_ring (phi m) (phi_is_monic m m_pos) v (monomial whole_numbers j))

  -- ---- R as a ring, and the remainder as the value at X
  abbrev Q : CommRing
  Q = quotient_ring whole_ring (phi m) (phi_is_monic m m_pos)

  abbrev red : List ℤ → Q.Carrier
  red = reduce whole_ring (phi m) (phi_is_monic m m_pos)

  abbrev is_row : List ℤ → Bool
  is_row a = eqb (length a) (degree m)

  abbrev constants : Hom whole_ring Q
  constants = record { map = λ a. red (a ∷ []); is = record { map_add = λ a b. same_held is_row (number-add whole_ring (phi m) (phi_is_monic m m_pos) a b); map_mul = λ a b. same_held is_row (number-mul whole_ring (phi m) (phi_is_monic m m_pos) a b); map_one = same_held is_row refl } }

  abbrev X : Q.Carrier
  X = red (monomial whole_numbers 1)

  past : (b : List ℤ) (i : ℕ) → coeff whole_numbers (plus whole_numbers (scaled whole_numbers (pos 1) b) (pos 0 ∷ [])) i ≡ coeff whole_numbers b i
  past b i = coeff-plus whole_ring (scaled whole_numbers (pos 1) b) (pos 0 ∷ []) i ∙ ap₂ (λ y z. y +ℤ z) (coeff-scaled whole_ring (pos 1) b i ∙ whole_ring.one_mul (coeff whole_numbers b i)) (none i) ∙ add_zero whole_ring (coeff whole_numbers b i)
    where
      none : (i : ℕ) → coeff whole_numbers (pos 0 ∷ []) i ≡ pos 0
      none zero = refl
      none (suc i) = refl

  shifted : (b : List ℤ) (i : ℕ) → coeff whole_numbers (times whole_numbers (monomial whole_numbers 1) b) i ≡ coeff whole_numbers (pos 0 ∷ b) i
  unfolding times
  shifted b i = coeff-plus whole_ring (scaled whole_numbers (pos 0) b) (pos 0 ∷ plus whole_numbers (scaled whole_numbers (pos 1) b) (pos 0 ∷ [])) i ∙ ap₂ (λ y z. y +ℤ z) (coeff-scaled whole_ring (pos 0) b i ∙ zero_mul whole_ring (coeff whole_numbers b i)) (rest i) ∙ whole_ring.zero_add (coeff whole_numbers (pos 0 ∷ b) i)
    where
      rest : (i : ℕ) → coeff whole_numbers (pos 0 ∷ plus whole_numbers (scaled whole_numbers (pos 1) b) (pos 0 ∷ [])) i ≡ coeff whole_numbers (pos 0 ∷ b) i
      rest zero = refl
      rest (suc i) = past b i

  moved : (a : ℤ) (b : List ℤ) (i : ℕ) → coeff whole_numbers (plus whole_numbers (a ∷ []) (times whole_numbers (monomial whole_numbers 1) b)) i ≡ coeff whole_numbers (a ∷ b) i
  moved a b i = coeff-plus whole_ring (a ∷ []) (times whole_numbers (monomial whole_numbers 1) b) i ∙ ap (λ z. coeff whole_numbers (a ∷ []) i +ℤ z) (shifted b i) ∙ join i
    where
      join : (i : ℕ) → coeff whole_numbers (a ∷ []) i +ℤ coeff whole_numbers (pos 0 ∷ b) i ≡ coeff whole_numbers (a ∷ b) i
      join zero = add_zero whole_ring a
      join (suc i) = whole_ring.zero_add (coeff whole_numbers b i)

  red_is : (b : List ℤ) → value whole_ring Q constants X b ≡ red b
  red_is [] = same_held is_row refl
  red_is (a ∷ b) = ap (λ z. Q.add (red (a ∷ [])) (Q.mul X z)) (red_is b) ∙ ap (Q.add (red (a ∷ []))) (sym (reduce-times whole_ring (phi m) (phi_is_monic m m_pos) (monomial whole_numbers 1) b)) ∙ sym (reduce-plus whole_ring (phi m) (phi_is_monic m m_pos) (a ∷ []) (times whole_numbers (monomial whole_numbers 1) b)) ∙ same_held is_row (remainder_same whole_ring (phi m) (phi_is_monic m m_pos) (plus whole_numbers (a ∷ []) (times whole_numbers (monomial whole_numbers 1) b)) (a ∷ b) (moved a b))

  -- ---- a(X^k) by the places of a
  pub substituted_total : (k : ℕ) → 0 < k → (a : List ℤ) → substituted m k a ≡ total (adds (R m)) (length a) (place_term m k a)
  substituted_total k q a =
      ap (λ z. z.0)
      (sym (red_is (at_power whole_numbers k a))
      ∙ value-substituted whole_ring Q constants X k q a
      ∙ value_at_is Q (power Q.ops X k) (map constants.map a))
      ∙ keeps_adds (held_preserves (quotient_laws whole_ring (phi m) (phi_is_monic m m_pos))) (length (map constants.map a)) (λ i. Q.mul (coeff Q.ops (map constants.map a) i) (power Q.ops (power Q.ops X k) i))
      ∙ ap₂ (total (adds (R m))) (length-map a constants.map) (fun_ext (λ i. ap (λ z. z.0) (term i) ∙ remainder-scaled whole_ring (phi m) (phi_is_monic m m_pos) (coeff whole_numbers a i) (monomial whole_numbers (i * k)) ∙ ap (multiple (coeff whole_numbers a i)) (monomial_residue m (i * k) m_pos)))
    where
      term : (i : ℕ) → Q.mul (coeff Q.ops (map constants.map a) i) (power Q.ops (power Q.ops X k) i) ≡ red (scaled whole_numbers (coeff whole_numbers a i) (monomial whole_numbers (i * k)))
      term i =
          ap₂ Q.mul (sym (map_coeff (preserves whole_ring Q constants) a i)) (sym (power-mul Q X k i) ∙ ap (power Q.ops X) (mul_comm k i) ∙ sym (value-monomial whole_ring Q constants X (i * k)))
          ∙ sym (value-scaled whole_ring Q constants X (coeff whole_numbers a i) (monomial whole_numbers (i * k)))
          ∙ red_is (scaled whole_numbers (coeff whole_numbers a i) (monomial whole_numbers (i * k)))
