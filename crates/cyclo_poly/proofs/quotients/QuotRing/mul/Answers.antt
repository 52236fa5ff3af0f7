use Rattle.std.proofs.Common.{map, ap, ap₂, ◌∙◌}
use Rattle.algebra.specs.Poly.{times, remainder, row_held, degree_of}
use Rattle.algebra.proofs.HeldQuotients.{held_quotient_laws}
use Rattle.cyclo_poly.proofs.RowSteps.{along, elements_held, row_elements_held}
use Rattle.cyclo_poly.proofs.quotients.QuotRing.mul.Goals as goal

pub product-requires-clause-f_held : goal.product-requires-clause-f_held
product-requires-clause-f_held g c =
    let s = c.args.self.now in
    let value = g.R.Ring.value in
    let held = g.R.Ring.held s.ring in
    let o = g.R.Ring.ops s.ring in
    let G = map value s.modulus.coeffs.items in
    row_elements_held value held (degree_of o G) c.args.a.now.coeffs.items c.deref.result.now c.deref.ensures.value c.requires.a_held

pub product-requires-clause-g_held : goal.product-requires-clause-g_held
product-requires-clause-g_held g c =
    let s = c.args.self.now in
    let value = g.R.Ring.value in
    let held = g.R.Ring.held s.ring in
    let o = g.R.Ring.ops s.ring in
    let G = map value s.modulus.coeffs.items in
    row_elements_held value held (degree_of o G) c.args.b.now.coeffs.items c.deref-2.result.now c.deref-2.ensures.value c.requires.b_held

pub divided-requires-clause-g_held : goal.divided-requires-clause-g_held
divided-requires-clause-g_held g c =
    let s = c.args.self.now in
    let value = g.R.Ring.value in
    let held = g.R.Ring.held s.ring in
    let o = g.R.Ring.ops s.ring in
    let G = map value s.modulus.coeffs.items in
    elements_held value held s.modulus.coeffs.items c.deref-4.result.now c.deref-4.ensures.value c.requires.ring.1

pub returns-clause-held : goal.returns-clause-held
returns-clause-held g c =
    let s = c.args.self.now in
    let value = g.R.Ring.value in
    let held = g.R.Ring.held s.ring in
    let o = g.R.Ring.ops s.ring in
    let G = map value s.modulus.coeffs.items in
    let valid = c.requires.ring in
    let L = held_quotient_laws (g.met.R.Ring.laws s.ring valid.0) G valid.1 valid.2 in
    let whole = ap (map value) c.deref-3.ensures.value ∙ c.in_ok-whole.ensures.value ∙ ap₂ (λ x y. times o (map value x) (map value y)) c.deref.ensures.value c.deref-2.ensures.value in
    let e = c.in_ok-_quotient.ensures.rest ∙ ap₂ (remainder o) (ap (map value) c.deref-4.ensures.value) whole in
    along (row_held held (degree_of o G)) e (L.mul_held (map value c.args.a.now.coeffs.items) (map value c.args.b.now.coeffs.items) c.requires.a_held c.requires.b_held)
