use Rattle.std.proofs.Common.{◌≡◌, ◌-ℤ◌, ◌*ℤ◌}
use Rattle.std.proofs.lemmas.Int.{to_z-of_z}
use mir.Syntax.{w64}
use mir.Val.{to_z, of_z}
use Rattle.cyclo_poly.proofs.WordSteps.{fits_small, product_fits_word, difference_fits, difference_is}
use Rattle.cyclo_poly.proofs.words.less_product.Goals as goal

pub returns : goal.returns
returns c =
    let a = c.args.a in
    let x = c.args.x in
    let y = c.args.y in
    let ea : to_z w64 (of_z w64 a) ≡ a = to_z-of_z w64 a (fits_small a c.requires.a_in) in
    let ex : to_z w64 (of_z w64 x) ≡ x = to_z-of_z w64 x (fits_small x c.requires.x_in) in
    let ey : to_z w64 (of_z w64 y) ≡ y = to_z-of_z w64 y (fits_small y c.requires.y_in) in
    let ep : to_z w64 (of_z w64 (x *ℤ y)) ≡ x *ℤ y = to_z-of_z w64 (x *ℤ y) (product_fits_word x y c.requires.x_in c.requires.y_in) in
    let es : to_z w64 (of_z w64 (a -ℤ x *ℤ y)) ≡ a -ℤ x *ℤ y = to_z-of_z w64 (a -ℤ x *ℤ y) (difference_fits a x y c.requires.a_in c.requires.x_in c.requires.y_in) in
    simp (ea, ex, ey, ep, es) (difference_is a x y)
