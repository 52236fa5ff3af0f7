-- The statements of the laws of cubes.
use Rattle.std.specs.Prelude.{◌≡◌, ◌↔◌, ℕ, ◌/◌, ◌%◌, ◌<◌, List, get_or, set, None, Some}
use Rattle.algebra.specs.Divisor.{UnitModulo}
use Rattle.hyper_cube.specs.Torus.{Torus, place, index, slot_count, size, T_of, IsLocated, unit_at, located}
use Rattle.hyper_cube.specs.declared.faults.CubeFault.{CubeFault}
use Rattle.hyper_cube.specs.Checks.{IsIndex, IsShape, IsCube, IsFault, first_fault, place_count, dimension_count}

-- a torus of the right shape passes all checks exactly where it is a cube
abbrev pub PassesWhereCube : Type 0
PassesWhereCube = (c : Torus) → IsShape c → (first_fault c ≡ None) ↔ IsCube c

-- and fails with a fault exactly where that fault says what is so
abbrev pub FailsWhereFault : Type 0
FailsWhereFault = (c : Torus) → IsShape c → (e : CubeFault) → (first_fault c ≡ Some e) ↔ IsFault c e

-- each product is a unit modulo m
abbrev pub StandAtUnits : Type 0
StandAtUnits = (c : Torus) → IsCube c → (i : ℕ) → UnitModulo c.m (unit_at c i) × (unit_at c i < c.m)

-- each unit modulo m stands at its place, and at no other
pub record StandsOnce (c : Torus) (k : ℕ) : Type 0 where
  pub within : located c k < place_count c
  pub stands : unit_at c (located c k) ≡ k % c.m
  pub only : (i : ℕ) → i < place_count c → unit_at c i ≡ k % c.m → i ≡ located c k

abbrev pub UnitsStandOnce : Type 0
UnitsStandOnce = (c : Torus) → IsCube c → (k : ℕ) → UnitModulo c.m k → StandsOnce c k

-- k = T(e) * p^u mod m for one index e and one u below d
pub record IsOnePair (c : Torus) (k : ℕ) : Type 0 where
  pub index_in : IsIndex c.dimensions (index c.dimensions (located c k / c.d))
  pub power_in : located c k % c.d < c.d
  pub is : IsLocated c k (index c.dimensions (located c k / c.d)) (located c k % c.d)
  pub only : (e : List ℕ) (u : ℕ) → IsIndex c.dimensions e → u < c.d → IsLocated c k e u
      → (e ≡ index c.dimensions (located c k / c.d)) × (u ≡ located c k % c.d)

abbrev pub UnitsAreOnePair : Type 0
UnitsAreOnePair = (c : Torus) → IsCube c → (k : ℕ) → UnitModulo c.m k → IsOnePair c k

-- T of slot 0 is 1
abbrev pub BeginsAtOne : Type 0
BeginsAtOne = (c : Torus) → IsCube c → T_of c (index c.dimensions 0) ≡ 1

-- indices and their numbers are two words for one thing
pub record IsNumbering (c : Torus) : Type 0 where
  pub index_in : (k : ℕ) → IsIndex c.dimensions (index c.dimensions k)
  pub place_in : (e : List ℕ) → IsIndex c.dimensions e → place c.dimensions e < slot_count c
  pub index_of_place : (e : List ℕ) → IsIndex c.dimensions e → index c.dimensions (place c.dimensions e) ≡ e
  pub place_of_index : (k : ℕ) → k < slot_count c → place c.dimensions (index c.dimensions k) ≡ k
  pub coordinate_in : (k i : ℕ) → i < dimension_count c → get_or (index c.dimensions k) i 0 < size c i
  pub set_in : (e : List ℕ) (i v : ℕ) → IsIndex c.dimensions e → i < dimension_count c → v < size c i
      → IsIndex c.dimensions (set e i v)
  pub set_place_in : (e : List ℕ) (i v : ℕ) → IsIndex c.dimensions e → i < dimension_count c → v < size c i
      → place c.dimensions (set e i v) < slot_count c

abbrev pub IndicesAreNumbered : Type 0
IndicesAreNumbered = (c : Torus) → IsCube c → IsNumbering c
