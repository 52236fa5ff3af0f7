-- Whole numbers: residues, balanced residues, being equal up to a multiple, quotients.
use Rattle.std.specs.List.{AllZip}
use Rattle.algebra.specs.Divisor.{HasInverse}
use Rattle.std.specs.Prelude.{◌≡◌, ℕ, zero, suc, ◌-◌, ◌*◌, ◌/◌, ◌%◌, ◌<◌, cond, leb, List, [], ◌∷◌, ◌++◌, map, All, AllPairs, ℤ, pos, negsuc, ◌+ℤ◌, ◌-ℤ◌, ◌*ℤ◌, ◌≤ℤ◌, ◌<ℤ◌, neg_ℤ}

-- the numbers below n, in order
abbrev pub below : ℕ → List ℕ
below zero = []
below (suc n) = below n ++ n ∷ []

-- the least number congruent to z modulo n
abbrev pub residue : ℕ → ℤ → ℕ
residue n (pos a) = a % n
residue n (negsuc a) = n - 1 - a % n

-- the r congruent to z modulo n with -n/2 < r <= n/2
abbrev pub balanced : ℕ → ℤ → ℤ
balanced n z = let r = residue n z in cond (leb (2 * r) n) (pos r) (pos r -ℤ pos n)

-- z / n, rounded down
abbrev pub quotient : ℕ → ℤ → ℤ
quotient n (pos a) = pos (a / n)
quotient n (negsuc a) = negsuc (a / n)

-- a and b are equal up to a multiple of n
abbrev pub SameModulo : ℕ → ℤ → ℤ → Type 0
SameModulo n a b = (k : ℤ) × (a ≡ b +ℤ pos n *ℤ k)

-- what balanced is
pub record IsBalanced (n : ℕ) (z r : ℤ) : Type 0 where
  pub same : SameModulo n z r
  pub high : (pos 2 *ℤ r) ≤ℤ pos n
  pub low : neg_ℤ (pos n) <ℤ (pos 2 *ℤ r)

abbrev pub product_of : List ℕ → ℕ
product_of [] = 1
product_of (x ∷ xs) = x * product_of xs

-- each modulus has an inverse modulo each later one
abbrev pub AreInvertible : List ℕ → Type 0
AreInvertible qs = AllPairs (λ q r. HasInverse r q) qs

-- x is the number below the product of qs whose residues modulo qs are rs
pub record IsChinese (qs rs : List ℕ) (x : ℕ) : Type 0 where
  pub small : x < product_of qs
  pub residues : AllZip (λ q r. x % q ≡ r) qs rs

-- f is the row of numbers below the product of qs whose rows of residues modulo qs are rows
pub record IsChineseRow (qs : List ℕ) (rows : List (List ℕ)) (f : List ℕ) : Type 0 where
  pub small : All (λ c. c < product_of qs) f
  pub residues : AllZip (λ q row. map (λ c. c % q) f ≡ row) qs rows
