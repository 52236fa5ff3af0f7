use Rattle.cyclo_poly.proofs.DivisionSteps.{divided_by}
use Rattle.cyclo_poly.proofs.division.divide_monic.Goals as goal

pub returns-clause-divided : goal.returns-clause-divided
returns-clause-divided g c =
    let L = g.met.R.Ring.laws c.args.ring.now c.requires.ring in
    let both = c.in_ok-quotient in
    divided_by g.R.Ring.value L c.args.b.now.coeffs.items c.args.a.now.coeffs.items c.deref-2.result.now c.deref.result.now both.quotient.items both.rest.items c.deref-2.ensures.value c.deref.ensures.value c.requires.b_held c.requires.a_held c.requires.monic both.ensures.quotient both.ensures.rest
