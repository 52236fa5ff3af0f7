use Rattle.std.proofs.Common.{◌≡◌, ◌+◌, ◌-◌, ◌*◌, ◌^◌, ◌≤◌, ◌+ℤ◌, ◌*ℤ◌, ◌∙◌, length, get_or, pos, nat_abs, sym, subst, arith, refl}
use Rattle.std.proofs.lemmas.Int.{to_z-of_z}
use mir.Syntax.{w64, w128}
use mir.Val.{to_z, of_z}
use Rattle.cyclo_poly.proofs.MemberSteps.{sum_more}
use Rattle.cyclo_poly.proofs.WordSteps.{fits_of, fits_small, sum_size}
use Rattle.cyclo_poly.proofs.members.correlated.Goals as goal

pub loop-j-preserved : goal.loop-j-preserved
loop-j-preserved c =
    let g = c.args.g.now in
    let h = c.args.c.now in
    let j = c.loop-j.j in
    let sum = to_z w128 c.loop-j.sum-bits in
    let next = c.add_product-sum.result in
    let x = get_or g (length g - 1 - (j + 1)) (pos 0) in
    let y = get_or h (c.args.from + j) (pos 0) in
    let sx = c.requires.g_small (length g - 1 - (j + 1)) in
    let sy = c.requires.c_small (c.args.from + j) in
    let ex : to_z w64 (of_z w64 x) ≡ x = to_z-of_z w64 x (fits_small x sx) in
    let ey : to_z w64 (of_z w64 y) ≡ y = to_z-of_z w64 y (fits_small y sy) in
    let e : next ≡ sum +ℤ x *ℤ y = cc in
    let size : nat_abs next ≤ (j + 1) * 2 ^ 62 = subst (λ z. nat_abs z ≤ (j + 1) * 2 ^ 62) (sym e) (sum_size sum x y j c.loop-j.invariant.1 sx sy) in
    let en : to_z w128 (of_z w128 next) ≡ next = to_z-of_z w128 next (fits_of w128 next (omega (arith, size, c.requires.short, c.loop-j-test.true, c.min-j-end.ensures))) in (
      en ∙ sum_more g h c.args.from j (j + 1) sum next x y (omega arith) refl refl e c.loop-j.invariant.0,
      subst (λ z. nat_abs z ≤ (j + 1) * 2 ^ 62) (sym en) size,
    )
