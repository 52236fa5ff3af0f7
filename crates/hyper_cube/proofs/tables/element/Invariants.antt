use Rattle.std.proofs.Common.{◌≡◌, ◌%◌, drop}
use Rattle.mod_ring.specs.Zq.{modulus_of}
use Rattle.hyper_cube.specs.Torus.{count, index, generated}
use Rattle.hyper_cube.specs.Checks.{dimensions_of}
use Rattle.hyper_cube.proofs.tables.element.Given as goal

abbrev pub invariant-loop-i : goal.invariant-loop-i
invariant-loop-i l = record {
  value : l.product ≡ generated (drop l.i (dimensions_of l.gens)) (index (drop l.i (dimensions_of l.gens)) l.slot) % modulus_of l.ring;
  stride : l.stride ≡ count (drop l.i (dimensions_of l.gens));
}
