-- The cyclotomic polynomials over the whole numbers, as lists of coefficients, and the ring R of polynomials modulo one of them.
use Rattle.std.specs.Prelude.{◌≡◌, ℕ, zero, suc, ◌-◌, List, [], ◌∷◌, ◌++◌, length, get_or, ℤ, pos}
use Rattle.algebra.specs.Ring.{Ops, whole_numbers}
use Rattle.algebra.specs.Poly.{plus, negated, scaled, times, monomial, at_power, remainder, quotient_by, degree_of, modulo}
use Rattle.cyclotomic.specs.Family.{over_divisors}

-- sums and products of lists of coefficients, with no division
abbrev pub lists : Ops (List ℤ)
lists = record { zero = []; one = pos 1 ∷ []; add = plus whole_numbers; mul = times whole_numbers; neg = negated whole_numbers }

-- X^k - 1
abbrev pub power_less_one : ℕ → List ℤ
power_less_one k = plus whole_numbers (monomial whole_numbers k) (negated whole_numbers (pos 1 ∷ []))

-- the member with number d of a list that begins with number 1
abbrev pub member : List (List ℤ) → ℕ → List ℤ
member fs d = get_or fs (d - 1) []

-- Phi_1 to Phi_n: each is X^k - 1 divided by the product of the earlier ones whose numbers divide k
unfoldable pub phis : ℕ → List (List ℤ)
phis zero = []
phis (suc n) = let before = phis n in before ++ quotient_by whole_numbers (over_divisors lists (member before) (suc n) n) (power_less_one (suc n)) ∷ []

-- Phi_m
unfoldable pub phi : ℕ → List ℤ
phi m = member (phis m) m

-- the degree n of Phi_m
abbrev pub degree : ℕ → ℕ
degree m = degree_of whole_numbers (phi m)

-- R: the whole polynomials modulo Phi_m, as lists of n coefficients
abbrev pub R : ℕ → Ops (List ℤ)
R m = modulo whole_numbers (phi m)

abbrev pub IsElement : ℕ → List ℤ → Type 0
IsElement m a = length a ≡ degree m

-- the remainder by Phi_m
abbrev pub fold : ℕ → List ℤ → List ℤ
fold m f = remainder whole_numbers (phi m) f

-- a(X^k)
abbrev pub substituted : ℕ → ℕ → List ℤ → List ℤ
substituted m k a = fold m (at_power whole_numbers k a)

-- c * a
abbrev pub multiple : ℤ → List ℤ → List ℤ
multiple c a = scaled whole_numbers c a
