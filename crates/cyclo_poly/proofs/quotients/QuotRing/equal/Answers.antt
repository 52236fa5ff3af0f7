use Rattle.std.proofs.Common.{map}
use Rattle.algebra.specs.Poly.{degree_of}
use Rattle.cyclo_poly.proofs.RowSteps.{row_elements_held}
use Rattle.cyclo_poly.proofs.quotients.QuotRing.equal.Goals as goal

pub all_equal-requires-clause-f_held : goal.all_equal-requires-clause-f_held
all_equal-requires-clause-f_held g c =
    let s = c.args.self.now in
    let value = g.R.Ring.value in
    let held = g.R.Ring.held s.ring in
    let o = g.R.Ring.ops s.ring in
    let G = map value s.modulus.coeffs.items in
    row_elements_held value held (degree_of o G) c.args.a.now.coeffs.items c.deref.result.now c.deref.ensures.value c.requires.a_held

pub all_equal-requires-clause-g_held : goal.all_equal-requires-clause-g_held
all_equal-requires-clause-g_held g c =
    let s = c.args.self.now in
    let value = g.R.Ring.value in
    let held = g.R.Ring.held s.ring in
    let o = g.R.Ring.ops s.ring in
    let G = map value s.modulus.coeffs.items in
    row_elements_held value held (degree_of o G) c.args.b.now.coeffs.items c.deref-2.result.now c.deref-2.ensures.value c.requires.b_held
