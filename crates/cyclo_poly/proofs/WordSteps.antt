-- Small whole numbers fit their words.
use Rattle.std.specs.Prelude.{◌≡◌, ℕ, zero, suc, ◌-ℤ◌, refl, ◌+◌, ◌*◌, ◌^◌, ◌<◌, ◌≤◌, ℤ, pos, negsuc, ◌+ℤ◌, ◌*ℤ◌, neg_ℤ, nat_abs}
use Rattle.std.proofs.Common.{arith, ap, sym}
use Rattle.std.proofs.Math.Nat.{mul-le-mul}
use mir.Syntax.{Width, w64, w128}
use mir.Val.{SFits, hbits}
use Rattle.algebra.proofs.Basic.{neg_mul}
use Rattle.algebra.proofs.Integers.{whole_ring}
use Rattle.cyclotomic.proofs.Norms.{abs_add, abs_mul}

pub fits_of : (w : Width) (z : ℤ) → nat_abs z < 2 ^ hbits w → SFits w z
fits_of w (pos n) h = record { sfits = h }
fits_of w (negsuc n) h = record { sfits = omega (arith, h) }

pub fits_small : (z : ℤ) → nat_abs z < 2 ^ 31 → SFits w64 z
fits_small z h = fits_of w64 z (omega (arith, h))

-- a product of small numbers
pub product_small : (x y : ℤ) → nat_abs x < 2 ^ 31 → nat_abs y < 2 ^ 31 → nat_abs (x *ℤ y) ≤ 2 ^ 62
product_small x y h k = at (nat_abs x) (nat_abs y) (omega arith) (omega arith) (abs_mul x y)
  where
    at : (a b : ℕ) → a ≤ 2 ^ 31 → b ≤ 2 ^ 31 → nat_abs (x *ℤ y) ≡ a * b → nat_abs (x *ℤ y) ≤ 2 ^ 62
    at a b p q e = omega (arith, e, mul-le-mul p q)

pub fits_wide : (z : ℤ) → nat_abs z < 2 ^ 31 → SFits w128 z
fits_wide z h = fits_of w128 z (omega (arith, h))

pub product_fits : (x y : ℤ) → nat_abs x < 2 ^ 31 → nat_abs y < 2 ^ 31 → SFits w128 (x *ℤ y)
product_fits x y h k = fits_of w128 (x *ℤ y) (omega (arith, product_small x y h k))

pub product_fits_word : (x y : ℤ) → nat_abs x < 2 ^ 31 → nat_abs y < 2 ^ 31 → SFits w64 (x *ℤ y)
product_fits_word x y h k = fits_of w64 (x *ℤ y) (omega (arith, product_small x y h k))

pub sum_fits : (a x y : ℤ) → nat_abs a ≤ 2 ^ 80 → nat_abs x < 2 ^ 31 → nat_abs y < 2 ^ 31 → SFits w128 (a +ℤ x *ℤ y)
sum_fits a x y l h k = fits_of w128 (a +ℤ x *ℤ y) (omega (arith, l, product_small x y h k, abs_add a (x *ℤ y)))

-- one product more in a sum that is bounded by its number of products
pub sum_size : (a x y : ℤ) (j : ℕ) → nat_abs a ≤ j * 2 ^ 62 → nat_abs x < 2 ^ 31 → nat_abs y < 2 ^ 31 → nat_abs (a +ℤ x *ℤ y) ≤ (j + 1) * 2 ^ 62
sum_size a x y j l h k = omega (arith, l, product_small x y h k, abs_add a (x *ℤ y))

abs_neg : (z : ℤ) → nat_abs (neg_ℤ z) ≡ nat_abs z
abs_neg (pos zero) = refl
abs_neg (pos (suc n)) = refl
abs_neg (negsuc n) = refl

pub difference_is : (a x y : ℤ) → a -ℤ x *ℤ y ≡ a +ℤ neg_ℤ x *ℤ y
difference_is a x y = ap (λ z. a +ℤ z) (sym (neg_mul whole_ring x y))

pub difference_fits : (a x y : ℤ) → nat_abs a < 2 ^ 31 → nat_abs x < 2 ^ 31 → nat_abs y < 2 ^ 31 → SFits w64 (a -ℤ x *ℤ y)
difference_fits a x y l h k = fits_of w64 (a -ℤ x *ℤ y) (omega (arith, l, product_small x y h k, abs_add a (neg_ℤ (x *ℤ y)), abs_neg (x *ℤ y)))
