-- What the dimensions of a cube hold.
use Rattle.std.specs.Prelude.{ℕ, List, map}
use Rattle.hyper_cube.specs.Torus.{Dimension}
use Rattle.hyper_cube.specs.declared.tables.Axis.{Axis}

abbrev pub dimensions_held : List Axis → List Dimension
dimensions_held axes = map (λ axis. record { generator = axis.generator; size = axis.size }) axes

abbrev pub strides_held : List Axis → List ℕ
strides_held axes = map (λ axis. axis.stride) axes
