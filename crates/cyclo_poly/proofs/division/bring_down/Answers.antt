use Rattle.std.proofs.Common.{◌≡◌, ◌∷◌, length, map, arith}
use Rattle.std.proofs.lemmas.List.{length-map}
use Rattle.cyclo_poly.proofs.DivisionSteps.{brought_down, size_kept}
use Rattle.cyclo_poly.proofs.division.bring_down.Goals as goal

pub returns-clause-rest : goal.returns-clause-rest
returns-clause-rest g c =
    let L = g.met.R.Ring.laws c.args.ring.now c.requires.ring in
    let minus = c.in_ok-minus in
    brought_down g.R.Ring.value L c.args.g.now c.args.rest.now.items c.insert.new.self.items c.remove-digit.new.self.items c.add_scaled.new.f.items c.args.next c.remove-digit.result minus.minus c.len-degree.result (omega (arith, c.len-degree.ensures, c.args.rest.now.ok.0)) (omega (arith, c.len-degree.ensures, c.requires.size)) c.requires.g_held c.requires.rest_held c.requires.next_held minus.ensures.held c.in_ok-insert.ensures.items c.remove-digit.ensures.items c.remove-digit.ensures.value minus.ensures.value c.in_ok-add_scaled.ensures.value

pub returns-clause-size : goal.returns-clause-size
returns-clause-size g c =
    let L = g.met.R.Ring.laws c.args.ring.now c.requires.ring in
    let value = g.R.Ring.value in
    let rest = c.args.rest.now in
    let kept : length c.add_scaled.new.f.items ≡ length rest.items =
    size_kept value L c.args.g.now c.add_scaled.new.f.items (value c.args.next ∷ map value rest.items) (length rest.items) (omega (arith, c.requires.size, rest.ok.0)) (omega (arith, length-map rest.items value)) (returns-clause-rest g c) in
    omega (arith, kept, rest.ok.0, c.add_scaled.new.f.ok.0)
