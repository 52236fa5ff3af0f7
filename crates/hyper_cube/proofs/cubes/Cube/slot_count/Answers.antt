use Rattle.std.proofs.Common.{arith}
use Rattle.hyper_cube.specs.Kept.{torus_of}
use Rattle.hyper_cube.proofs.Axed.{slots_small}
use Rattle.hyper_cube.proofs.cubes.Cube.slot_count.Goals as goal

pub overflow_cast-result : goal.overflow_cast-result
overflow_cast-result c = omega (arith, slots_small (torus_of c.self.inside) c.self.invariant.valid, c.self.invariant.elements.long)
