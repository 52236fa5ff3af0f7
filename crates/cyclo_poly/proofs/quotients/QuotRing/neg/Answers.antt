use Rattle.std.proofs.Common.{map, ap, ◌∙◌}
use Rattle.algebra.specs.Poly.{negated, row_held, degree_of}
use Rattle.algebra.proofs.HeldQuotients.{held_quotient_laws}
use Rattle.cyclo_poly.proofs.RowSteps.{along, row_elements_held}
use Rattle.cyclo_poly.proofs.quotients.QuotRing.neg.Goals as goal

pub negated-requires-clause-f_held : goal.negated-requires-clause-f_held
negated-requires-clause-f_held g c =
    let s = c.args.self.now in
    let value = g.R.Ring.value in
    let held = g.R.Ring.held s.ring in
    let o = g.R.Ring.ops s.ring in
    let G = map value s.modulus.coeffs.items in
    row_elements_held value held (degree_of o G) c.args.a.now.coeffs.items c.deref.result.now c.deref.ensures.value c.requires.a_held

pub returns-clause-held : goal.returns-clause-held
returns-clause-held g c =
    let s = c.args.self.now in
    let value = g.R.Ring.value in
    let held = g.R.Ring.held s.ring in
    let o = g.R.Ring.ops s.ring in
    let G = map value s.modulus.coeffs.items in
    let valid = c.requires.ring in
    let L = held_quotient_laws (g.met.R.Ring.laws s.ring valid.0) G valid.1 valid.2 in
    let e = c.in_ok-coeffs.ensures.value ∙ ap (λ x. negated o (map value x)) c.deref.ensures.value in
    along (row_held held (degree_of o G)) e (L.neg_held (map value c.args.a.now.coeffs.items) c.requires.a_held)
