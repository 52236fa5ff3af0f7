-- The torus that a cube holds, and its tables.
use Rattle.std.specs.Prelude.{◌≡◌, ℕ, ◌<◌, length, get_or}
use Rattle.algebra.specs.Divisor.{UnitModulo}
use Rattle.mod_ring.specs.Zq.{modulus_of}
use Rattle.hyper_cube.specs.Torus.{Torus, located}
use Rattle.hyper_cube.specs.Checks.{IsCube}
use Rattle.hyper_cube.specs.Tables.{AreElements, AreStrides}
use Rattle.hyper_cube.specs.Axes.{dimensions_held, strides_held}
use Rattle.hyper_cube.specs.declared.cubes.Cube.TheInside.{Inside}

abbrev pub torus_of : Inside → Torus
torus_of cube = record { m = modulus_of cube.ring; p = cube.p; d = cube.d; dimensions = dimensions_held cube.axes.items }

-- the counts of the later dimensions, the products of the slots, and the places of the units
pub record AreTables (cube : Inside) : Type 0 where
  pub valid : IsCube (torus_of cube)
  pub strides : AreStrides (torus_of cube).dimensions (strides_held cube.axes.items)
  pub elements : AreElements (modulus_of cube.ring) (torus_of cube).dimensions cube.elements.items
  pub long : length cube.places.items ≡ modulus_of cube.ring
  pub places : (k : ℕ) → k < modulus_of cube.ring → UnitModulo (modulus_of cube.ring) k → get_or cube.places.items k 0 ≡ located (torus_of cube) k
