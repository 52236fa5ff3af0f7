-- Cyclic convolutions.
use Rattle.std.specs.Prelude.{◌≡◌, ℕ, ◌+◌, ◌-◌, ◌*◌, ◌%◌, ◌^◌, List, length, get_or}
use Rattle.algebra.specs.Range.{total, counts}
use Rattle.two_power.specs.Tree.{AreValues}

-- the sum of x_i f_(j - i), the places of f taken modulo their number
unfoldable pub convolved : List ℕ → List ℕ → ℕ → ℕ
convolved f x j = total counts (length x) (λ i. get_or x i 0 * get_or f ((j + (length f - i)) % length f) 0)

-- a modulus, a tree of roots of order 2^levels, and the values of a fixed row at them
pub record Convolver : Type 0 where
  pub q : ℕ
  pub levels : ℕ
  pub ws : List ℕ
  pub values : List ℕ

-- f is the fixed row
pub record HasRow (k : Convolver) (f : List ℕ) : Type 0 where
  pub long : length f ≡ 2 ^ k.levels
  pub are_values : AreValues k.q k.ws k.levels 0 f k.values
