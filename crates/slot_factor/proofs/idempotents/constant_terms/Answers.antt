use Rattle.std.proofs.Common.{◌<◌, ◌≡◌, get_or, arith}
use Rattle.std.proofs.lemmas.List.Elements.{All-push, All-same}
use Rattle.ext_field.specs.Element.{eta_power, trace}
use Rattle.hyper_cube.proofs.Tabled.{filled_more}
use Rattle.slot_factor.proofs.TraceSteps.{term_is, term_below}
use Rattle.slot_factor.proofs.idempotents.constant_terms.Goals as goal

pub loop-j-preserved : goal.loop-j-preserved
loop-j-preserved c =
    let f = c.args.ext.now in
    let t_is : c.coeff-term.result ≡ get_or (trace c.args.ext.now (eta_power c.args.ext.now c.loop-j.j)) 0 0 = term_is f c.degree.ensures.valid c.in_ok-traces.traces.items c.loop-j.j c.degree.result c.coeff-term.result c.index.result.now c.in_ok-traces.ensures.value (omega (arith, c.loop-j-test.true, c.in_ok-traces.ensures.long)) c.index.ensures c.coeff-term.ensures in
    record {
      filled = filled_more _ c.loop-j.j c.coeff-term.result c.loop-j.terms.items c.push.new.self.items c.loop-j.invariant.filled c.in_ok-push.ensures.items t_is;
      below = All-same (λ v. v < f.p) _ _ c.in_ok-push.ensures.items (All-push (λ v. v < f.p) c.loop-j.terms.items c.coeff-term.result c.loop-j.invariant.below (term_below f c.degree.ensures.valid c.loop-j.j c.coeff-term.result t_is));
    }
