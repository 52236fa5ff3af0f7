use Rattle.std.proofs.Common.{◌<◌, subst, sym}
use Rattle.algebra.specs.Divisor.{UnitModulo}
use Rattle.hyper_cube.specs.Torus.{Torus, slot_count}
use Rattle.hyper_cube.proofs.Axed.{element_unit}
use Rattle.hyper_cube.proofs.cubes.Cube.element.Goals as goal

pub returns-clause-unit : goal.returns-clause-unit
returns-clause-unit c =
    let below = subst (λ (t : Torus). c.args.slot < slot_count t) (sym c.self.view_is) c.requires in
    subst (λ (t : Torus). UnitModulo t.m c.index.result.now) c.self.view_is (element_unit c.self.inside c.self.invariant c.args.slot c.index.result.now below c.index.ensures)
