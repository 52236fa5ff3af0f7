use Rattle.std.proofs.Common.{[], ◌∷◌, ◌++◌, map, ap, ap₂, ◌∙◌}
use Rattle.algebra.specs.Poly.{remainder, row_held, degree_of}
use Rattle.algebra.proofs.HeldQuotients.{held_quotient_laws}
use Rattle.cyclo_poly.proofs.RowSteps.{along, elements_held}
use Rattle.cyclo_poly.proofs.quotients.QuotRing.one.Goals as goal

pub divided-requires-clause-g_held : goal.divided-requires-clause-g_held
divided-requires-clause-g_held g c =
    let s = c.args.self.now in
    let value = g.R.Ring.value in
    let held = g.R.Ring.held s.ring in
    let o = g.R.Ring.ops s.ring in
    let G = map value s.modulus.coeffs.items in
    elements_held value held s.modulus.coeffs.items c.deref-2.result.now c.deref-2.ensures.value c.requires.1

pub returns-clause-held : goal.returns-clause-held
returns-clause-held g c =
    let s = c.args.self.now in
    let value = g.R.Ring.value in
    let held = g.R.Ring.held s.ring in
    let o = g.R.Ring.ops s.ring in
    let G = map value s.modulus.coeffs.items in
    let valid = c.requires in
    let L = held_quotient_laws (g.met.R.Ring.laws s.ring valid.0) G valid.1 valid.2 in
    let one = ap (map value) (c.deref.ensures.value ∙ c.in_ok-push.ensures.items ∙ ap (λ l. l ++ c.in_ok-one.one ∷ []) c.new-list.ensures.items) ∙ ap (λ v. v ∷ []) c.in_ok-one.ensures.value in
    let e = c.in_ok-_quotient.ensures.rest ∙ ap₂ (remainder o) (ap (map value) c.deref-2.ensures.value) one in
    along (row_held held (degree_of o G)) e L.one_held
