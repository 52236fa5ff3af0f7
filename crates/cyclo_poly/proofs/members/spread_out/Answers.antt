use Rattle.std.proofs.Common.{◌≡◌, ◌∷◌, ◌++◌, ◌∙◌, [], ap, arith, rules}
use Rattle.std.proofs.lemmas.Int.{to_z-of_z}
use mir.Syntax.{w64}
use mir.Val.{SFits, to_z, of_z}
use Rattle.algebra.specs.Ring.{whole_numbers}
use Rattle.algebra.specs.Poly.{coeff, at_power}
use Rattle.cyclo_poly.proofs.MemberSteps.{push_place, spread_all}
use Rattle.cyclo_poly.proofs.members.spread_out.Goals as goal

pub loop-i-preserved : goal.loop-i-preserved
loop-i-preserved c =
    let r = c.spread_place-next.result in
    let fits : SFits w64 r = search rules in
    let back : to_z w64 (of_z w64 r) ≡ r = to_z-of_z w64 r fits in
    let pushed : c.push.new.self.items ≡ c.loop-i.g.items ++ r ∷ [] = c.in_ok-push.ensures.items ∙ ap (λ z. c.loop-i.g.items ++ z ∷ []) back in (
      omega (arith, c.in_ok-push.ensures.len, c.loop-i.invariant.0),
      push_place c.loop-i.g.items c.push.new.self.items r c.loop-i.i (coeff whole_numbers (at_power whole_numbers c.args.p c.args.f.now)) pushed (omega (arith, c.loop-i.invariant.0, c.loop-i.g.ok)) c.spread_place-next.ensures c.loop-i.invariant.1,
    )

pub returns-clause-equal : goal.returns-clause-equal
returns-clause-equal c = spread_all c.args.p c.requires.positive c.args.f.now c.loop-i.g.items c.loop-i.i c.requires.filled c.loop-i-test.false (omega (arith, c.loop-i.invariant.0, c.loop-i.g.ok)) c.loop-i.invariant.1
