-- What is said of the cyclotomic polynomials and of R, for m above 0.
use Rattle.std.specs.Prelude.{suc, cond, ◌≡◌, ℕ, ◌*◌, ◌%◌, ◌<◌, ◌≤◌, List, length, ℤ, eqb}
use Rattle.algebra.specs.Ring.{HeldLaws, whole_numbers}
use Rattle.algebra.specs.Range.{total, counts}
use Rattle.algebra.specs.Divisor.{is_divisor, UnitModulo, number_of_units}
use Rattle.algebra.specs.Poly.{SameCoeffs, IsMonic, at_power}
use Rattle.cyclotomic.specs.Family.{over_divisors}
use Rattle.cyclotomic.specs.Cyclotomic.{lists, power_less_one, phi, degree, R, IsElement, fold, substituted}

-- the product of Phi_d over the divisors d of m is X^m - 1
abbrev pub ProductIsPowerLessOne : Type 0
ProductIsPowerLessOne = (m : ℕ) → 0 < m → over_divisors lists phi m m ≡ power_less_one m

-- no other polynomials have these products
abbrev pub PhiIsOnly : Type 0
PhiIsOnly = (psi : ℕ → List ℤ) (n : ℕ) → ((m : ℕ) → 0 < m → m ≤ n → SameCoeffs whole_numbers (over_divisors lists psi m m) (power_less_one m)) → (m : ℕ) → 0 < m → m ≤ n → SameCoeffs whole_numbers (psi m) (phi m)

-- the last coefficient of Phi_m is 1
abbrev pub PhiIsMonic : Type 0
PhiIsMonic = (m : ℕ) → 0 < m → IsMonic whole_numbers (phi m)

-- its degree is the number of units modulo m
abbrev pub DegreeIsUnits : Type 0
DegreeIsUnits = (m : ℕ) → 0 < m → degree m ≡ number_of_units m

-- the numbers of units modulo the divisors of m sum to m
abbrev pub UnitsOfDivisors : Type 0
UnitsOfDivisors = (m : ℕ) → 0 < m → total counts m (λ i. cond (is_divisor (suc i) m) (number_of_units (suc i)) 0) ≡ m

-- Phi_m divides Phi_m(X^k), for a unit k
abbrev pub PhiDividesImage : Type 0
PhiDividesImage = (m k : ℕ) → 0 < m → 0 < k → UnitModulo m k → fold m (at_power whole_numbers k (phi m)) ≡ (R m).zero

-- the elements of R are a commutative ring with one
abbrev pub RIsRing : Type 0
RIsRing = (m : ℕ) → 0 < m → HeldLaws (λ a. eqb (length a) (degree m)) (R m)

-- a ↦ a(X^k) keeps the operations of R
pub record KeepsOperations (m k : ℕ) : Type 0 where
  pub one : substituted m k (R m).one ≡ (R m).one
  pub sum : (a b : List ℤ) → IsElement m a → IsElement m b → substituted m k ((R m).add a b) ≡ (R m).add (substituted m k a) (substituted m k b)
  pub product : (a b : List ℤ) → IsElement m a → IsElement m b → substituted m k ((R m).mul a b) ≡ (R m).mul (substituted m k a) (substituted m k b)

abbrev pub SubstitutionKeepsOperations : Type 0
SubstitutionKeepsOperations = (m k : ℕ) → 0 < m → 0 < k → UnitModulo m k → KeepsOperations m k

-- first k, then j is their product
abbrev pub SubstitutionsCompose : Type 0
SubstitutionsCompose = (m j k : ℕ) (a : List ℤ) → 0 < m → 0 < j → 0 < k → UnitModulo m j → substituted m j (substituted m k a) ≡ substituted m (k * j) a

-- only the residue of k modulo m counts, and 1 changes nothing
abbrev pub SubstitutionByResidue : Type 0
SubstitutionByResidue = (m j k : ℕ) (a : List ℤ) → 0 < m → 0 < j → 0 < k → j % m ≡ k % m → substituted m j a ≡ substituted m k a

abbrev pub SubstitutionByOne : Type 0
SubstitutionByOne = (m : ℕ) (a : List ℤ) → 0 < m → IsElement m a → substituted m 1 a ≡ a
