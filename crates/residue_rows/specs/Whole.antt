-- The whole polynomial behind rows of residues: the one whose coefficients are balanced residues modulo the product of the moduli.
use Rattle.std.specs.Prelude.{◌≡◌, ℕ, ◌*◌, ◌%◌, ◌<◌, Bool, true, false, ◌&&◌, eqb, cond, All, List, [], ◌∷◌, map, length, get_or, ℤ, pos, nat_abs}
use Rattle.algebra.specs.Whole.{below, balanced, product_of}
use Rattle.cyclotomic.specs.Cyclotomic.{degree}
use Rattle.residue_rows.specs.Rows.{rows_of}

-- whether the residues of x modulo qs are rs
unfoldable pub has_residues : List ℕ → List ℕ → ℕ → Bool
has_residues [] rs x = true
has_residues (q ∷ qs) [] x = false
has_residues (q ∷ qs) (r ∷ rs) x = eqb (x % q) r && has_residues qs rs x

-- the first number in a list that passes a test, or 0
unfoldable pub first_of : (ℕ → Bool) → List ℕ → ℕ
first_of test [] = 0
first_of test (x ∷ xs) = cond (test x) x (first_of test xs)

-- the least number whose residues modulo qs are rs
unfoldable pub number_with : List ℕ → List ℕ → ℕ
number_with qs rs = first_of (has_residues qs rs) (below (product_of qs))

-- the residues of coefficient i
abbrev pub residues_at : ℕ → List (List ℕ) → List ℕ
residues_at i rows = map (λ row. get_or row i 0) rows

-- the balanced polynomial of n coefficients with these rows
unfoldable pub whole : ℕ → List ℕ → List (List ℕ) → List ℤ
whole m qs rows = map (λ i. balanced (product_of qs) (pos (number_with qs (residues_at i rows)))) (below (degree m))

-- what it is
pub record IsWhole (m : ℕ) (qs : List ℕ) (rows : List (List ℕ)) (a : List ℤ) : Type 0 where
  pub long : length a ≡ degree m
  pub residues : rows_of qs a ≡ rows
  pub small : All (λ x. 2 * nat_abs x < product_of qs) a
