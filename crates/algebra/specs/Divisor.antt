-- Divisors of natural numbers, the greatest common divisor, and units modulo m.
use Rattle.std.specs.Prelude.{List, [], ◌∷◌, ◌++◌, ◌≡◌, ℕ, zero, suc, ◌+◌, ◌*◌, ◌%◌, Bool, true, false, cond, ◌&&◌, eqb}
use Rattle.algebra.specs.Range.{total, counts}

-- m is a multiple of d
abbrev pub Dvd : ℕ → ℕ → Type 0
Dvd d m = (k : ℕ) × (m ≡ k * d)

-- the test of it
abbrev pub is_divisor : ℕ → ℕ → Bool
is_divisor d m = eqb (m % d) 0

-- the greatest number up to n that divides a and b, or 0 where there is none
abbrev pub common_divisor : ℕ → ℕ → ℕ → ℕ
common_divisor a b zero = 0
common_divisor a b (suc n) = elim (is_divisor (suc n) a && is_divisor (suc n) b) [ true ↦ suc n | false ↦ common_divisor a b n ]

-- the greatest common divisor, for b above 0
abbrev pub gcd : ℕ → ℕ → ℕ
gcd a b = common_divisor a b b

-- k and m have no common divisor above 1
abbrev pub UnitModulo : ℕ → ℕ → Type 0
UnitModulo m k = (d : ℕ) → Dvd d k → Dvd d m → d ≡ 1

-- the test of it, for m above 0
abbrev pub is_unit : ℕ → ℕ → Bool
is_unit m k = eqb (gcd k m) 1

-- k * u is 1 modulo m
abbrev pub HasInverse : ℕ → ℕ → Type 0
HasInverse m k = (u : ℕ) × (v : ℕ) × (k * u ≡ m * v + 1)

-- how many of the numbers from 1 to m have no common divisor with m above 1
abbrev pub number_of_units : ℕ → ℕ
number_of_units m = total counts m (λ t. cond (is_unit m (suc t)) 1 0)

-- the units modulo m among the numbers from 1 to n, in ascending order
unfoldable pub units_upto : ℕ → ℕ → List ℕ
units_upto m zero = []
units_upto m (suc n) = units_upto m n ++ (elim (is_unit m (suc n)) [ true ↦ suc n ∷ [] | false ↦ [] ])

-- the units modulo m, in ascending order
abbrev pub units : ℕ → List ℕ
units m = units_upto m m
