use Rattle.std.proofs.Common.{◌≡◌, ◌-◌, ◌∙◌, length, ap, arith}
use Rattle.cyclotomic.specs.Cyclotomic.{degree}
use Rattle.cyclo_poly.proofs.CycloSteps.{kept_filled, kept_degree}
use Rattle.cyclo_poly.proofs.cyclo.Cyclo.phi.Goals as goal

pub returns-clause-long : goal.returns-clause-long
returns-clause-long c =
    let e : length c.self.inside.member.items - 1 ≡ degree c.args.self.now = kept_degree _ _ _ _ _ c.self.invariant ∙ ap degree c.self.view_is in
    ap length c.deref.ensures.value ∙ omega (arith, e, kept_filled _ _ _ _ _ c.self.invariant)
