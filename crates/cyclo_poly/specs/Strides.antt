-- Phi_m by products of X^j - 1, which take sums with a stride.
use Rattle.std.specs.Prelude.{ℕ, ◌+◌, ◌-◌, ◌%◌, ◌<◌, ◌≤◌, ◌≡◌, List, [], ◌∷◌, get_or, ℤ, pos}
use Rattle.std.specs.List.{All}
use Rattle.algebra.specs.Ring.{whole_numbers}
use Rattle.algebra.specs.Power.{less}
use Rattle.algebra.specs.Series.{Series, product}
use Rattle.algebra.specs.Poly.{coeff, SameCoeffs, times}
use Rattle.algebra.specs.Whole.{residue}
use Rattle.cyclotomic.specs.Cyclotomic.{power_less_one, phi, degree}

-- f times X^j - 1 for each of the strides j
unfoldable pub strided : List ℕ → List ℤ → List ℤ
strided [] f = f
strided (j ∷ js) f = times whole_numbers (power_less_one j) (strided js f)

-- Phi_m times the product of X^j - 1 over the strides below is that over the strides above: Phi_m is their quotient
pub record AreStrides (m : ℕ) (above below : List ℕ) : Type 0 where
  pub above_positive : All (λ j. 0 < j) above
  pub below_positive : All (λ j. 0 < j) below
  pub above_high : All (λ j. j ≤ m) above
  pub below_high : All (λ j. j ≤ m) below
  pub equal : SameCoeffs whole_numbers (strided below (phi m)) (strided above (pos 1 ∷ []))

-- each place less the place j further on
abbrev pub less_next : ℕ → Series ℤ → Series ℤ
less_next j f i = less whole_numbers (f i) (f (i + j))

unfoldable pub less_all : List ℕ → Series ℤ → Series ℤ
less_all [] f = f
less_all (j ∷ js) f = less_next j (less_all js f)

-- the places of b are those of a, each less the one j further on, modulo q
abbrev pub IsLessNext : ℕ → ℕ → List ℕ → List ℕ → Type 0
IsLessNext q j a b = (i : ℕ) → get_or b i 0 ≡ (get_or a i 0 + (q - get_or a (i + j) 0)) % q

-- the places of b are those of a, each less the ones further on, modulo q
abbrev pub IsLess : ℕ → List ℕ → List ℕ → List ℕ → Type 0
IsLess q js a b = (i : ℕ) → get_or b i 0 ≡ residue q (less_all js (λ k. pos (get_or a k 0)) i)

-- row begins at place n, the degree of Phi_d, with the quotient of a by Phi_d, modulo q: place i of a is the product's place i + n
abbrev pub IsPassed : ℕ → ℕ → List ℤ → List ℕ → Type 0
IsPassed q d a row = (i : ℕ) → residue q (coeff whole_numbers a i) ≡ residue q (product whole_numbers (coeff whole_numbers (phi d)) (λ k. pos (get_or row k 0)) (i + degree d))
