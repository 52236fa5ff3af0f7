use Rattle.std.proofs.Common.{◌-◌, map, arith}
use Rattle.std.proofs.lemmas.List.{length-map}
use Rattle.algebra.specs.Poly.{row_held, degree_of}
use Rattle.algebra.proofs.HeldQuotients.{held_quotient_laws}
use Rattle.cyclo_poly.proofs.RowSteps.{along, zeros_are}
use Rattle.cyclo_poly.proofs.quotients.QuotRing.zero.Goals as goal

pub returns-clause-value : goal.returns-clause-value
returns-clause-value g c =
    let s = c.args.self.now in
    let value = g.R.Ring.value in
    let held = g.R.Ring.held s.ring in
    let o = g.R.Ring.ops s.ring in
    let G = map value s.modulus.coeffs.items in
    zeros_are value o G c.in_ok-coeffs.coeffs.items (c.len.result - 1) (omega (arith, c.len.ensures, s.modulus.coeffs.ok.0, length-map s.modulus.coeffs.items value)) c.in_ok-coeffs.ensures.value

pub returns-clause-held : goal.returns-clause-held
returns-clause-held g c =
    let s = c.args.self.now in
    let value = g.R.Ring.value in
    let held = g.R.Ring.held s.ring in
    let o = g.R.Ring.ops s.ring in
    let G = map value s.modulus.coeffs.items in
    let valid = c.requires in
    let L = held_quotient_laws (g.met.R.Ring.laws s.ring valid.0) G valid.1 valid.2 in
    along (row_held held (degree_of o G)) (returns-clause-value g c) L.zero_held
