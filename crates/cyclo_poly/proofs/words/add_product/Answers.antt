use Rattle.std.proofs.Common.{◌≡◌, ◌+ℤ◌, ◌*ℤ◌, arith}
use Rattle.std.proofs.lemmas.Int.{to_z-of_z}
use mir.Syntax.{w64, w128}
use mir.Val.{to_z, of_z}
use Rattle.cyclo_poly.proofs.WordSteps.{fits_of, fits_small, fits_wide, product_fits, sum_fits}
use Rattle.cyclo_poly.proofs.words.add_product.Goals as goal

pub overflow_add-result : goal.overflow_add-result
overflow_add-result c =
    let a = c.args.a in
    let x = c.args.x in
    let y = c.args.y in
    let wa : to_z w128 (of_z w128 a) ≡ a = to_z-of_z w128 a (fits_of w128 a (omega (arith, c.requires.a_in))) in
    let ex : to_z w64 (of_z w64 x) ≡ x = to_z-of_z w64 x (fits_small x c.requires.x_in) in
    let ey : to_z w64 (of_z w64 y) ≡ y = to_z-of_z w64 y (fits_small y c.requires.y_in) in
    let wx : to_z w128 (of_z w128 x) ≡ x = to_z-of_z w128 x (fits_wide x c.requires.x_in) in
    let wy : to_z w128 (of_z w128 y) ≡ y = to_z-of_z w128 y (fits_wide y c.requires.y_in) in
    let wp : to_z w128 (of_z w128 (x *ℤ y)) ≡ x *ℤ y = to_z-of_z w128 (x *ℤ y) (product_fits x y c.requires.x_in c.requires.y_in) in
    simp (wa, ex, ey, wx, wy, wp) (sum_fits a x y c.requires.a_in c.requires.x_in c.requires.y_in)

pub returns : goal.returns
returns c =
    let a = c.args.a in
    let x = c.args.x in
    let y = c.args.y in
    let wa : to_z w128 (of_z w128 a) ≡ a = to_z-of_z w128 a (fits_of w128 a (omega (arith, c.requires.a_in))) in
    let ex : to_z w64 (of_z w64 x) ≡ x = to_z-of_z w64 x (fits_small x c.requires.x_in) in
    let ey : to_z w64 (of_z w64 y) ≡ y = to_z-of_z w64 y (fits_small y c.requires.y_in) in
    let wx : to_z w128 (of_z w128 x) ≡ x = to_z-of_z w128 x (fits_wide x c.requires.x_in) in
    let wy : to_z w128 (of_z w128 y) ≡ y = to_z-of_z w128 y (fits_wide y c.requires.y_in) in
    let wp : to_z w128 (of_z w128 (x *ℤ y)) ≡ x *ℤ y = to_z-of_z w128 (x *ℤ y) (product_fits x y c.requires.x_in c.requires.y_in) in
    let ws : to_z w128 (of_z w128 (a +ℤ x *ℤ y)) ≡ a +ℤ x *ℤ y = to_z-of_z w128 (a +ℤ x *ℤ y) (sum_fits a x y c.requires.a_in c.requires.x_in c.requires.y_in) in
    simp (wa, ex, ey, wx, wy, wp, ws)
