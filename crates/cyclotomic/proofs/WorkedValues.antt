-- Values of the definitions, by computation: Phi_1 to Phi_12, a coefficient of Phi_105, a number of units, heights,
-- products and substitutions in the rings of 7 and of 12.
use Rattle.std.specs.Prelude.{◌≡◌, get_or, [], ◌∷◌, pos, negsuc, refl}
use Rattle.algebra.specs.Poly.{times, at_power, quotient_by, quotient_digits, remainder}
use Rattle.algebra.specs.Divisor.{number_of_units}
use Rattle.cyclotomic.specs.Cyclotomic.{phi, phis, degree, R, substituted}
use Rattle.cyclotomic.specs.Norm.{height}

first_twelve : phis 12 ≡ (negsuc 0 ∷ pos 1 ∷ []) ∷ (pos 1 ∷ pos 1 ∷ []) ∷ (pos 1 ∷ pos 1 ∷ pos 1 ∷ []) ∷ (pos 1 ∷ pos 0 ∷ pos 1 ∷ []) ∷ (pos 1 ∷ pos 1 ∷ pos 1 ∷ pos 1 ∷ pos 1 ∷ []) ∷ (pos 1 ∷ negsuc 0 ∷ pos 1 ∷ []) ∷ (pos 1 ∷ pos 1 ∷ pos 1 ∷ pos 1 ∷ pos 1 ∷ pos 1 ∷ pos 1 ∷ []) ∷ (pos 1 ∷ pos 0 ∷ pos 0 ∷ pos 0 ∷ pos 1 ∷ []) ∷ (pos 1 ∷ pos 0 ∷ pos 0 ∷ pos 1 ∷ pos 0 ∷ pos 0 ∷ pos 1 ∷ []) ∷ (pos 1 ∷ negsuc 0 ∷ pos 1 ∷ negsuc 0 ∷ pos 1 ∷ []) ∷ (pos 1 ∷ pos 1 ∷ pos 1 ∷ pos 1 ∷ pos 1 ∷ pos 1 ∷ pos 1 ∷ pos 1 ∷ pos 1 ∷ pos 1 ∷ pos 1 ∷ []) ∷ (pos 1 ∷ pos 0 ∷ negsuc 0 ∷ pos 0 ∷ pos 1 ∷ []) ∷ []
unfolding phis times quotient_by quotient_digits remainder
first_twelve = refl

units_of_12 : number_of_units 12 ≡ 4
units_of_12 = refl

height_12 : height 12 ≡ 1
unfolding height phi phis times quotient_by quotient_digits remainder
height_12 = refl

height_7 : height 7 ≡ 1
unfolding height phi phis times quotient_by quotient_digits remainder
height_7 = refl

degree_30 : degree 30 ≡ 8
unfolding phi phis times quotient_by quotient_digits remainder
degree_30 = refl

coefficient_7_of_105 : get_or (phi 105) 7 (pos 0) ≡ negsuc 1
unfolding phi phis times quotient_by quotient_digits remainder
coefficient_7_of_105 = refl

-- X^3 X^4 = 1 modulo Phi_7
product_7 : (R 7).mul (pos 0 ∷ pos 0 ∷ pos 0 ∷ pos 1 ∷ pos 0 ∷ pos 0 ∷ []) (pos 0 ∷ pos 0 ∷ pos 0 ∷ pos 0 ∷ pos 1 ∷ pos 0 ∷ []) ≡ pos 1 ∷ pos 0 ∷ pos 0 ∷ pos 0 ∷ pos 0 ∷ pos 0 ∷ []
unfolding phi phis times quotient_by quotient_digits remainder
product_7 = refl

-- X X^5 = -1 - X - .. - X^5 modulo Phi_7
last_power_7 : (R 7).mul (pos 0 ∷ pos 1 ∷ pos 0 ∷ pos 0 ∷ pos 0 ∷ pos 0 ∷ []) (pos 0 ∷ pos 0 ∷ pos 0 ∷ pos 0 ∷ pos 0 ∷ pos 1 ∷ []) ≡ negsuc 0 ∷ negsuc 0 ∷ negsuc 0 ∷ negsuc 0 ∷ negsuc 0 ∷ negsuc 0 ∷ []
unfolding phi phis times quotient_by quotient_digits remainder
last_power_7 = refl

-- (1 + X) (2 + X^3) = 1 + 2 X + X^2 + X^3 modulo Phi_12 = X^4 - X^2 + 1
product_12 : (R 12).mul (pos 1 ∷ pos 1 ∷ pos 0 ∷ pos 0 ∷ []) (pos 2 ∷ pos 0 ∷ pos 0 ∷ pos 1 ∷ []) ≡ pos 1 ∷ pos 2 ∷ pos 1 ∷ pos 1 ∷ []
unfolding phi phis times quotient_by quotient_digits remainder
product_12 = refl

-- X^5 = X^3 - X modulo Phi_12
substituted_12 : substituted 12 5 (pos 0 ∷ pos 1 ∷ pos 0 ∷ pos 0 ∷ []) ≡ pos 0 ∷ negsuc 0 ∷ pos 0 ∷ pos 1 ∷ []
unfolding phi phis times at_power quotient_by quotient_digits remainder
substituted_12 = refl
