use Rattle.std.proofs.Common.{◌≡◌, drop}
use Rattle.hyper_cube.specs.Torus.{count}
use Rattle.hyper_cube.specs.Checks.{dimensions_of}
use Rattle.hyper_cube.proofs.tables.slots_of.Given as goal

abbrev pub invariant-loop-i : goal.invariant-loop-i
invariant-loop-i l = l.slots ≡ count (drop l.i (dimensions_of l.gens))
