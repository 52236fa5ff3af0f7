-- What a table says of its slots.
use Rattle.std.specs.Prelude.{ℕ, List}
use Rattle.hyper_cube.specs.Torus.{Torus}
use Rattle.ext_field.specs.Element.{Extension}

-- the extension, the torus of the indices, and the dual basis
pub record Packing : Type 0 where
  pub field : Extension
  pub cube : Torus
  pub dual : List (List ℕ)
