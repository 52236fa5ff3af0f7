-- Tests that compute: whether an extension is one, and where a list fails to be a dual basis.
use Rattle.std.specs.Prelude.{ℕ, ◌*◌, ◌/◌, ◌%◌, ◌==◌, Bool, not, nat_eq, if◌then◌else◌, List, map, find, Option}
use Rattle.std.specs.Cmp.Lexicographic.{pointwise}
use Rattle.algebra.specs.Power.{power}
use Rattle.algebra.specs.Poly.{value_at}
use Rattle.algebra.specs.Whole.{below}
use Rattle.ext_field.specs.Element.{Extension, degree, elements, number, eta, pairing}

module _ (f : Extension) where
  -- whether G(eta^p) is 0
  unfoldable pub frobenius_holds : Bool
  frobenius_holds = pointwise nat_eq (value_at (elements f) (power (elements f) (eta f) f.p) (map (number f) f.factor)) (elements f).zero

  -- whether the trace of theta_i X^k is 1 for i = k, and 0 otherwise
  unfoldable pub is_dual_at : List (List ℕ) → ℕ → ℕ → Bool
  is_dual_at dual i k = pointwise nat_eq (pairing f dual i k) (if i == k then (elements f).one else (elements f).zero)

  -- the pairs of numbers below d, row by row
  abbrev pub pairs : List (ℕ × ℕ)
  pairs = map (λ j. (j / degree f, j % degree f)) (below (degree f * degree f))

  -- the first pair that fails
  unfoldable pub dual_fault : List (List ℕ) → Option (ℕ × ℕ)
  dual_fault dual = find (λ at. not (is_dual_at dual at.0 at.1)) pairs
