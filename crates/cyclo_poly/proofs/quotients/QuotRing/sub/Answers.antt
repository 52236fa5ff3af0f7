use Rattle.std.proofs.Common.{map, ap, ap₂, ◌∙◌}
use Rattle.algebra.specs.Poly.{plus, negated, row_held, degree_of}
use Rattle.algebra.proofs.HeldQuotients.{held_quotient_laws}
use Rattle.cyclo_poly.proofs.RowSteps.{along, row_elements_held}
use Rattle.cyclo_poly.proofs.quotients.QuotRing.sub.Goals as goal

pub negated-requires-clause-f_held : goal.negated-requires-clause-f_held
negated-requires-clause-f_held g c =
    let s = c.args.self.now in
    let value = g.R.Ring.value in
    let held = g.R.Ring.held s.ring in
    let o = g.R.Ring.ops s.ring in
    let G = map value s.modulus.coeffs.items in
    row_elements_held value held (degree_of o G) c.args.b.now.coeffs.items c.deref.result.now c.deref.ensures.value c.requires.b_held

pub added-requires-clause-f_held : goal.added-requires-clause-f_held
added-requires-clause-f_held g c =
    let s = c.args.self.now in
    let value = g.R.Ring.value in
    let held = g.R.Ring.held s.ring in
    let o = g.R.Ring.ops s.ring in
    let G = map value s.modulus.coeffs.items in
    row_elements_held value held (degree_of o G) c.args.a.now.coeffs.items c.deref-2.result.now c.deref-2.ensures.value c.requires.a_held

pub returns-clause-held : goal.returns-clause-held
returns-clause-held g c =
    let s = c.args.self.now in
    let value = g.R.Ring.value in
    let held = g.R.Ring.held s.ring in
    let o = g.R.Ring.ops s.ring in
    let G = map value s.modulus.coeffs.items in
    let valid = c.requires.ring in
    let L = held_quotient_laws (g.met.R.Ring.laws s.ring valid.0) G valid.1 valid.2 in
    let B = map value c.args.b.now.coeffs.items in
    let minus = ap (map value) c.deref-3.ensures.value ∙ c.in_ok-minus.ensures.value ∙ ap (λ x. negated o (map value x)) c.deref.ensures.value in
    let e = c.in_ok-coeffs.ensures.value ∙ ap₂ (plus o) (ap (map value) c.deref-2.ensures.value) minus in
    along (row_held held (degree_of o G)) e (L.add_held (map value c.args.a.now.coeffs.items) (negated o B) c.requires.a_held (L.neg_held B c.requires.b_held))
