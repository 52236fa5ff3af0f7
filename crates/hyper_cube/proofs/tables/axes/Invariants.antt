use Rattle.std.proofs.Common.{◌≡◌, suc, take, drop}
use Rattle.hyper_cube.specs.Torus.{count}
use Rattle.hyper_cube.specs.Checks.{dimensions_of}
use Rattle.hyper_cube.specs.Tables.{IsFilled}
use Rattle.hyper_cube.specs.Axes.{dimensions_held, strides_held}
use Rattle.hyper_cube.proofs.tables.axes.Given as goal

abbrev pub invariant-loop-i : goal.invariant-loop-i
invariant-loop-i l = record {
  dimensions : dimensions_held l.axes.items ≡ dimensions_of (take l.i l.gens);
  strides : IsFilled (λ i. count (drop (suc i) (dimensions_of l.gens))) l.i (strides_held l.axes.items);
}
