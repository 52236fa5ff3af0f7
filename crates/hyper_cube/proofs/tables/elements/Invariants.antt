use Rattle.std.proofs.Common.{◌%◌}
use Rattle.mod_ring.specs.Zq.{modulus_of}
use Rattle.hyper_cube.specs.Torus.{index, generated}
use Rattle.hyper_cube.specs.Checks.{dimensions_of}
use Rattle.hyper_cube.specs.Tables.{IsFilled}
use Rattle.hyper_cube.proofs.tables.elements.Given as goal

abbrev pub invariant-loop-slot : goal.invariant-loop-slot
invariant-loop-slot l = IsFilled (λ k. generated (dimensions_of l.gens) (index (dimensions_of l.gens) k) % modulus_of l.ring) l.slot l.list.items
