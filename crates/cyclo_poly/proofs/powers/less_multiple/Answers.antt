use Rattle.std.proofs.Common.{◌≡◌, ◌+◌, ◌<◌, ◌+ℤ◌, ◌*ℤ◌, neg_ℤ, length, get_or, pos, arith, refl, rules}
use Rattle.std.proofs.lemmas.Int.{to_z-of_z}
use mir.Syntax.{w64}
use mir.Val.{SFits, to_z, of_z}
use Rattle.cyclo_poly.proofs.PowerSteps.{lowered_more, height_more}
use Rattle.cyclo_poly.proofs.WordSteps.{fits_small}
use Rattle.cyclo_poly.proofs.powers.less_multiple.Goals as goal

pub loop-i-preserved : goal.loop-i-preserved
loop-i-preserved c =
    let g = c.args.g.now in
    let old = c.args.row.now in
    let cur = c.loop-i.row in
    let i = c.loop-i.i in
    let from = c.args.from in
    let r = c.less_product-place.result in
    let y = c.args.factor in
    let ey : to_z w64 (of_z w64 y) ≡ y = to_z-of_z w64 y (fits_small y c.requires.factor_small) in
    let gi = get_or g i (pos 0) in
    let eg : to_z w64 (of_z w64 gi) ≡ gi = to_z-of_z w64 gi (fits_small gi (c.requires.g_small i)) in
    let ci = get_or cur (from + i) (pos 0) in
    let fits : SFits w64 ci = search rules in
    let ec : to_z w64 (of_z w64 ci) ≡ ci = to_z-of_z w64 ci fits in
    let fr : SFits w64 r = search rules in
    let er : to_z w64 (of_z w64 r) ≡ r = to_z-of_z w64 r fr in
    let e : to_z w64 (of_z w64 r) ≡ ci +ℤ neg_ℤ (to_z w64 (of_z w64 y)) *ℤ gi = cc in
    let inside : from + i < length cur = omega (arith, c.requires.within, c.loop-i-test.true, c.loop-i.auto.row) in
    let high = height_more cur _ from i (to_z w64 (of_z w64 r)) inside refl in (
      lowered_more g (to_z w64 (of_z w64 y)) from i old cur _ (to_z w64 (of_z w64 r)) inside refl e c.loop-i.invariant.0,
      omega (arith, c.max-high.ensures, c.unsigned_abs.ensures.value, c.loop-i.invariant.1, high),
    )
