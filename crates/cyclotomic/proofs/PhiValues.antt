-- The values at the powers of a root of unity with units as exponents: Phi_m is 0 there, so a polynomial and its remainder
-- by Phi_m have the same values, and n values and n coefficients determine each other. Here m is k + 1.
use Rattle.std.specs.Prelude.{◌≡◌, ℕ, suc, ◌-◌ as ◌-ₙ◌, ◌*◌ as ◌*ₙ◌, ◌<◌, List, map, length, refl, Bool, true, false, cond, ℤ, pos, [], ◌∷◌, zero}
use Rattle.std.proofs.Common.{sym, ◌∙◌, ap, ap₂, arith, map-id}
use Rattle.algebra.specs.Ring.{CommRing, whole_numbers}
use Rattle.algebra.specs.Hom.{Hom}
use Rattle.algebra.specs.Range.{adds}
use Rattle.algebra.specs.Power.{power, number}
use Rattle.algebra.specs.Divisor.{HasInverse, units_upto, units, is_divisor}
use Rattle.algebra.specs.Series.{Series}
use Rattle.algebra.specs.Poly.{coeff, value_at, remainder, IsMonic, degree_of, monomial, negated}
use Rattle.algebra.proofs.Basic.{mul_zero, add_zero}
use Rattle.algebra.proofs.Integers.{whole_ring}
use Rattle.algebra.proofs.Homs.{id_hom, preserves}
use Rattle.algebra.proofs.Units.{inverse_of_unit}
use Rattle.algebra.proofs.UnitList.{length-units, unit_at, unit_le, unit_positive, unit_is, unit_lt, units_ascend, unit_index}
use Rattle.algebra.proofs.Ranges.{total_cong, mul-total, add_laws}
use Rattle.algebra.proofs.Powers.{power-mul}
use Rattle.algebra.proofs.Evaluate.{horner_is}
use Rattle.algebra.proofs.Lists.{same_list, Below-coeff}
use Rattle.algebra.proofs.Maps.{map_monic, map_degree_of}
use Rattle.algebra.specs.Expression.{◌:*◌}
use Rattle.algebra.proofs.Solver.{solve3}
use Rattle.algebra.proofs.Values.{value, value_is, value-remainder, value-times, value-plus, value-monomial, value-negated}
use Rattle.algebra.proofs.Dividing.{length-remainder}
use Rattle.cyclotomic.specs.Family.{IsProductAt, part, over_divisors}
use Rattle.cyclotomic.specs.Roots.{IsRoot, transform}
use Rattle.cyclotomic.specs.Cyclotomic.{phi, degree, lists}
use Rattle.cyclotomic.proofs.Listed.{listed, length-listed, listed_at}
use Rattle.cyclotomic.proofs.Roots.{root_apart, transform_forth, unit_root}
use Rattle.cyclotomic.proofs.Images.{vanishes}
use Rattle.cyclotomic.proofs.FewValues.{at_point, same_values}
use Rattle.cyclotomic.proofs.PhiLists.{phi_monic, phi_degree, phi_product}

module _ (R : CommRing) where
  open R use {Carrier as C, ops as o, add as ◌+◌, mul as ◌*◌, zero as 𝟘, one as 𝟙}

  infixl 70 ◌+◌
  infixl 75 ◌*◌
  -- the value of a list is that of its series
  pub value_plain : (x : C) (f : List C) → value_at o x f ≡ at_point R x (length f) (coeff o f)
  value_plain x f = ap (value_at o x) (sym (map-id f)) ∙ value_is R R (id_hom R) x f

  -- the value of m listed coefficients at a power of w is a place of their transform
  pub value_listed : (w : C) (m : ℕ) (a : Series C) (j : ℕ) → value_at o (power o w j) (listed m a) ≡ transform o w m a j
  value_listed w m a j = value_plain (power o w j) (listed m a) ∙ ap (λ n. at_point R (power o w j) n (coeff o (listed m a))) (length-listed m a) ∙ horner_is R R (id_hom R) (power o w j) m (coeff o (listed m a)) ∙ total_cong (adds o) (add_laws R) m (λ t. coeff o (listed m a) t * power o (power o w j) t) (λ t. a t * power o w (j *ₙ t)) (λ t l. ap₂ (λ y z. y * z) (listed_at m a 𝟘 t l) (sym (power-mul R w j t)))

-- the values of the cyclotomic polynomials at y are a family at y
module _ (R : CommRing) (F : Hom whole_ring R) (y : R.Carrier) where
  abbrev at_y : List ℤ → R.Carrier
  at_y f = value whole_ring R F y f

  value_one : at_y (pos 1 ∷ []) ≡ R.one
  value_one = ap₂ (λ a z. R.add a z) F.map_one (mul_zero R y) ∙ add_zero R R.one

  value_over : (m n : ℕ) → at_y (over_divisors lists phi m n) ≡ over_divisors R.ops (λ d. at_y (phi d)) m n
  value_over m zero = value_one
  value_over m (suc n) = value-times whole_ring R F y (over_divisors lists phi m n) (part lists phi m n) ∙ ap₂ R.mul (value_over m n) (choose (is_divisor (suc n) m))
    where
      choose : (b : Bool) → at_y (cond b (phi (suc n)) (pos 1 ∷ [])) ≡ cond b (at_y (phi (suc n))) R.one
      choose true = refl
      choose false = value_one

  pub value_law : (i : ℕ) → IsProductAt R.ops y (λ d. at_y (phi d)) (suc i)
  value_law i = sym (value_over (suc i) (suc i)) ∙ ap at_y (phi_product i) ∙ value-plus whole_ring R F y (monomial whole_numbers (suc i)) (negated whole_numbers (pos 1 ∷ [])) ∙ ap₂ R.add (value-monomial whole_ring R F y (suc i)) (value-negated whole_ring R F y (pos 1 ∷ []) ∙ ap R.neg value_one)

module _ (R : CommRing) (k : ℕ) (w v : R.Carrier) (inverse : R.mul w v ≡ R.one) (root : IsRoot R.ops w (suc k)) where
  open R use {Carrier as C, ops as o, zero as 𝟘}

  -- the values at the units determine the n coefficients
  pub values_determine : (f h : List C) → length f ≡ degree (suc k) → length h ≡ degree (suc k) → ((i : ℕ) → i < degree (suc k) → value_at o (power o w (unit_at (suc k) i)) f ≡ value_at o (power o w (unit_at (suc k) i)) h) → f ≡ h
  values_determine f h e s same = same_list o f h (e ∙ sym s) (λ i. ap (λ c. c i) (same_values R (degree (suc k)) (coeff o f) (coeff o h) (λ i. power o w (unit_at (suc k) i)) (λ i l. Below-coeff o f i (omega arith)) (λ i l. Below-coeff o h i (omega arith)) (λ i j l d. root_apart R w v (suc k) inverse root (unit_at (suc k) i) (unit_at (suc k) j) (units_ascend (suc k) j i d (place i l)) (omega (arith, unit_le (suc k) i (place i l), unit_positive (suc k) j (place j (omega arith))))) (λ i l. at f e i ∙ same i l ∙ sym (at h s i))))
    where
      place : (i : ℕ) → i < degree (suc k) → i < length (units (suc k))
      place i l = omega (arith, length-units (suc k), phi_degree k)

      at : (f : List C) → length f ≡ degree (suc k) → (i : ℕ) → at_point R (power o w (unit_at (suc k) i)) (degree (suc k)) (coeff o f) ≡ value_at o (power o w (unit_at (suc k) i)) f
      at f e i = sym (value_plain R (power o w (unit_at (suc k) i)) f ∙ ap (λ n. at_point R (power o w (unit_at (suc k) i)) n (coeff o f)) e)

module _ (R : CommRing) (F : Hom whole_ring R) (k : ℕ) (w v : R.Carrier) (inverse : R.mul w v ≡ R.one) (root : IsRoot R.ops w (suc k)) where
  open R use {Carrier as C, ops as o, add as ◌+◌, mul as ◌*◌, zero as 𝟘, one as 𝟙}

  infixl 70 ◌+◌
  infixl 75 ◌*◌
  -- Phi_m over the ring
  abbrev g : List C
  g = map F.map (phi (suc k))

  pub over_monic : IsMonic o g
  over_monic = map_monic (preserves whole_ring R F) (phi (suc k)) (phi_monic k)

  pub over_degree : degree_of o g ≡ degree (suc k)
  over_degree = map_degree_of (preserves whole_ring R F) (phi (suc k))

  pub phi_zero : (j : ℕ) → HasInverse (suc k) j → value_at o (power o w j) g ≡ 𝟘
  phi_zero j unit = vanishes R y (λ d. value whole_ring R F y (phi d)) k (unit_root R w (suc k) j (omega arith) unit root) (λ i l. value_law R F y i)
    where
      y : C
      y = power o w j

  -- the remainder by Phi_m has the same values
  pub value_fold : (j : ℕ) → HasInverse (suc k) j → (f : List C) → value_at o (power o w j) (remainder o g f) ≡ value_at o (power o w j) f
  value_fold j unit f = plain (remainder o g f) ∙ value-remainder R R (id_hom R) (power o w j) g over_monic (sym (plain g) ∙ phi_zero j unit) f ∙ sym (plain f)
    where
      plain : (h : List C) → value_at o (power o w j) h ≡ value R R (id_hom R) (power o w j) h
      plain h = ap (value_at o (power o w j)) (sym (map-id h))

  module _ (c : C) (scale : c * number o (suc k) ≡ 𝟙) where
    -- the values, by their exponents
    abbrev places : Series C → Series C
    places b j = b (length (units_upto (suc k) (j -ₙ 1)))

    -- the polynomial with m coefficients that has these values at all powers of w
    abbrev turned : Series C → Series C
    turned b t = c * transform o v (suc k) (places b) t

    turned_value : (b : Series C) (j : ℕ) → j < suc k → transform o w (suc k) (turned b) j ≡ places b j
    turned_value b j l =
        total_cong (adds o) (add_laws R) (suc k) (λ t. c * transform o v (suc k) (places b) t * power o w (j *ₙ t)) (λ t. c * (transform o v (suc k) (places b) t * power o w (j *ₙ t))) (λ t q. R.mul_assoc c (transform o v (suc k) (places b) t) (power o w (j *ₙ t)))
        ∙ sym (mul-total R (suc k) (λ t. transform o v (suc k) (places b) t * power o w (j *ₙ t)) c)
        ∙ ap (λ z. c * z) (transform_forth R w v (suc k) inverse root (places b) j l)
        ∙ solve3 R (λ c b n. c :* (b :* n)) (λ c b n. c :* n :* b) refl c (places b j) (number o (suc k))
        ∙ ap (λ z. z * places b j) scale
        ∙ R.one_mul (places b j)

    -- n coefficients with the given values at the units, in ascending order
    abbrev pub from_values : Series C → List C
    from_values b = remainder o g (listed (suc k) (turned b))

    pub from_values_length : (b : Series C) → length (from_values b) ≡ degree (suc k)
    from_values_length b = length-remainder o g (listed (suc k) (turned b)) ∙ over_degree

    pub from_values_at : 0 < k → (b : Series C) (i : ℕ) → i < degree (suc k) → value_at o (power o w (unit_at (suc k) i)) (from_values b) ≡ b i
    from_values_at p b i l = value_fold (unit_at (suc k) i) (inverse_of_unit (suc k) (unit_at (suc k) i) (omega arith) (unit_positive (suc k) i place) (unit_is (suc k) i (omega arith) place)) (listed (suc k) (turned b)) ∙ value_listed R w (suc k) (turned b) (unit_at (suc k) i) ∙ turned_value b (unit_at (suc k) i) (unit_lt (suc k) i (omega arith) place) ∙ ap b (unit_index (suc k) i place)
      where
        place : i < length (units (suc k))
        place = omega (arith, length-units (suc k), phi_degree k)
