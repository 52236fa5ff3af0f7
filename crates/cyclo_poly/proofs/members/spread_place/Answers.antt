use Rattle.std.proofs.Common.{◌≡◌, ◌/◌, get_or, pos, refl, rules}
use Rattle.std.proofs.lemmas.Int.{to_z-of_z}
use mir.Syntax.{w64}
use mir.Val.{SFits, to_z, of_z}
use Rattle.cyclo_poly.proofs.MemberSteps.{spread_yes, spread_no}
use Rattle.cyclo_poly.proofs.members.spread_place.Goals as goal

pub returns-then-i-p-eq0 : goal.returns-then-i-p-eq0
returns-then-i-p-eq0 c =
    let v = get_or c.args.f.now (c.args.i / c.args.p) (pos 0) in
    let fits : SFits w64 v = search rules in
    let back : to_z w64 (of_z w64 v) ≡ v = to_z-of_z w64 v fits in
    spread_yes c.args.p c.requires.positive c.args.f.now c.args.i _ c.if-i-p-eq0.true back

pub returns : goal.returns
returns c = spread_no c.args.p c.requires.positive c.args.f.now c.args.i _ c.if-i-p-eq0.false refl
