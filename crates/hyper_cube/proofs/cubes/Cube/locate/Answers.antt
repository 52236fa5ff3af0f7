use Rattle.std.proofs.Common.{◌+◌, ◌*◌, ◌/◌, ◌%◌, ◌<◌, ◌≡◌, subst, sym}
use Rattle.algebra.specs.Divisor.{UnitModulo}
use Rattle.hyper_cube.specs.Torus.{Torus, index, slot_count, IsLocated, located}
use Rattle.hyper_cube.proofs.Axed.{slot_in, pair_is, pair_located}
use Rattle.hyper_cube.proofs.cubes.Cube.locate.Goals as goal

pub returns-clause-slot : goal.returns-clause-slot
returns-clause-slot c =
    let k_in = subst (λ (t : Torus). c.args.k < t.m) (sym c.self.view_is) c.requires.low in
    let unit = subst (λ (t : Torus). UnitModulo t.m c.args.k) (sym c.self.view_is) c.requires.unit in
    subst (λ (t : Torus). c.index-place.result.now / c.self.inside.d < slot_count t) c.self.view_is (slot_in c.self.inside c.self.invariant c.args.k c.index-place.result.now k_in unit c.index-place.ensures)

pub returns-clause-place : goal.returns-clause-place
returns-clause-place c =
    let k_in = subst (λ (t : Torus). c.args.k < t.m) (sym c.self.view_is) c.requires.low in
    let unit = subst (λ (t : Torus). UnitModulo t.m c.args.k) (sym c.self.view_is) c.requires.unit in
    subst (λ (t : Torus). c.index-place.result.now / c.self.inside.d * t.d + c.index-place.result.now % c.self.inside.d ≡ located t c.args.k) c.self.view_is (pair_is c.self.inside c.self.invariant c.args.k c.index-place.result.now k_in unit c.index-place.ensures)

pub returns-clause-located : goal.returns-clause-located
returns-clause-located c =
    let k_in = subst (λ (t : Torus). c.args.k < t.m) (sym c.self.view_is) c.requires.low in
    let unit = subst (λ (t : Torus). UnitModulo t.m c.args.k) (sym c.self.view_is) c.requires.unit in
    subst (λ (t : Torus). IsLocated t c.args.k (index t.dimensions (c.index-place.result.now / c.self.inside.d)) (c.index-place.result.now % c.self.inside.d)) c.self.view_is (pair_located c.self.inside c.self.invariant c.args.k c.index-place.result.now k_in unit c.index-place.ensures)
