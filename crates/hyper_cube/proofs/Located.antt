-- Each unit modulo m stands at one place.
use Rattle.std.specs.Prelude.{◌≡◌, ℕ, zero, suc, ◌-◌, ◌/◌, ◌%◌, ◌<◌, ◌≤◌, Bool, eqb, refl}
use Rattle.std.proofs.Common.{arith, sym, ◌∙◌, ap, mod-lt, eqb-true, eq-eqb}
use Rattle.algebra.specs.Divisor.{UnitModulo, is_unit, number_of_units}
use Rattle.algebra.proofs.Units.{unit_yes, residue_of_unit}
use Rattle.hyper_cube.specs.Torus.{Torus, index, unit_at, located, IsLocated}
use Rattle.hyper_cube.specs.Checks.{least, place_count, IsCube}
use Rattle.hyper_cube.proofs.Least.{least_hit, least_some}
use Rattle.hyper_cube.proofs.Pigeons.{ArePigeons, pigeons_all}
use Rattle.hyper_cube.proofs.Shapes.{m_positive, m_above, unit_at_below, unit_at_inverse, unit_at_unit, inverse_positive}

-- 0 is no unit
pub unit_positive : (m k : ℕ) → 1 < m → UnitModulo m k → 0 < k
unit_positive m zero l h = absurd (omega (arith, h m (0, omega arith) (1, omega arith)))
unit_positive m (suc k) l h = omega arith

module _ (c : Torus) where
  abbrev stands : ℕ → ℕ → Bool
  stands k i = eqb (unit_at c i) (k % c.m)

  located_is : (k : ℕ) → located c k ≡ least (place_count c) (stands k)
  unfolding located least
  located_is k = refl

  module _ (C : IsCube c) where
    positive_at : (i : ℕ) → 0 < unit_at c i
    positive_at i = inverse_positive c.m (unit_at c i) (unit_at_inverse c C.shape C.order C.powers i)

    pigeons : ArePigeons (place_count c) c.m (λ i. unit_at c i - 1) (λ t. is_unit c.m (suc t))
    pigeons = record {
      low = λ i l. omega (arith, unit_at_below c C.shape i);
      passes = λ i l. ap (is_unit c.m) (back (unit_at c i) (positive_at i)) ∙ unit_yes c.m (unit_at c i) (m_positive c C.shape) (unit_at_unit c C.shape C.order C.powers i);
      differ = λ i j l k e. C.distinct i j l k (sym (back (unit_at c i) (positive_at i)) ∙ ap suc e ∙ back (unit_at c j) (positive_at j));
    }
      where
        back : (u : ℕ) → 0 < u → suc (u - 1) ≡ u
        back u l = omega arith

    -- a unit stands somewhere
    pub unit_stands : (k : ℕ) → UnitModulo c.m k → (i : ℕ) × (i < place_count c) × (unit_at c i ≡ k % c.m)
    unit_stands k h = go (pigeons_all (place_count c) c.m (λ i. unit_at c i - 1) (λ t. is_unit c.m (suc t)) pigeons count (r - 1) (omega (arith, mod-lt k (m_positive c C.shape))) (ap (is_unit c.m) (let e : suc (r - 1) ≡ r = omega (arith, positive) in e) ∙ unit_yes c.m r (m_positive c C.shape) unit))
      where
        r : ℕ
        r = k % c.m

        unit : UnitModulo c.m (k % c.m)
        unit = residue_of_unit c.m k h

        positive : 0 < k % c.m
        positive = unit_positive c.m (k % c.m) (m_above c C.shape) unit

        count : place_count c ≡ number_of_units c.m
        count = omega (arith, C.counted)

        go : (i : ℕ) × (i < place_count c) × (unit_at c i - 1 ≡ k % c.m - 1) → (i : ℕ) × (i < place_count c) × (unit_at c i ≡ k % c.m)
        go (i, l, e) = (i, l, omega (arith, e, positive_at i, positive))

    pub located_in : (k : ℕ) → UnitModulo c.m k → located c k < place_count c
    located_in k h = go (unit_stands k h)
      where
        go : (i : ℕ) × (i < place_count c) × (unit_at c i ≡ k % c.m) → located c k < place_count c
        go (i, l, e) = omega (arith, located_is k, least_some (place_count c) (stands k) i l (eq-eqb (unit_at c i) (k % c.m) e))

    pub located_at : (k : ℕ) → UnitModulo c.m k → unit_at c (located c k) ≡ k % c.m
    located_at k h = ap (unit_at c) (located_is k) ∙ eqb-true _ (k % c.m) (least_hit (place_count c) (stands k) (omega (arith, located_is k, located_in k h)))

    pub located_only : (k i : ℕ) → i < place_count c → unit_at c i ≡ k % c.m → i ≡ located c k
    located_only k i l e = sym (located_is k ∙ go)
      where
        low : least (place_count c) (stands k) ≤ i
        low = least_some (place_count c) (stands k) i l (eq-eqb (unit_at c i) (k % c.m) e)

        go : least (place_count c) (stands k) ≡ i
        go = C.distinct (least (place_count c) (stands k)) i (omega (arith, low)) l (eqb-true _ (k % c.m) (least_hit (place_count c) (stands k) (omega (arith, low))) ∙ sym e)

    -- the slot and the power of a unit
    pub located_pair : (k : ℕ) → UnitModulo c.m k → IsLocated c k (index c.dimensions (located c k / c.d)) (located c k % c.d)
    located_pair k h = sym (located_at k h)
