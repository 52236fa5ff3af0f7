use Rattle.hyper_cube.specs.Torus.{T_of, index}
use Rattle.hyper_cube.specs.Tables.{IsFilled}
use Rattle.slot_laws.specs.Slots.{inverse_modulo}
use Rattle.slot_factor.proofs.idempotents.inverses.Given as goal

abbrev pub invariant-loop-e : goal.invariant-loop-e
invariant-loop-e l = IsFilled (λ j. inverse_modulo l.cube.m (T_of l.cube (index l.cube.dimensions j))) l.e l.list.items
