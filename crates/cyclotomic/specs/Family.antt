-- What makes a family of elements of a ring, numbered from 1 on, the cyclotomic one.
use Rattle.std.specs.Prelude.{◌≡◌, ℕ, suc, cond}
use Rattle.algebra.specs.Ring.{Ops}
use Rattle.algebra.specs.Range.{total, muls}
use Rattle.algebra.specs.Power.{less, power}
use Rattle.algebra.specs.Divisor.{is_divisor}

module _ {C : Type 0} (o : Ops C) where
  -- phi d where d = i + 1 divides m, else one
  abbrev pub part : (ℕ → C) → ℕ → ℕ → C
  part phi m i = cond (is_divisor (suc i) m) (phi (suc i)) o.one

  -- the product of phi d over the divisors d of m that are at most n
  abbrev pub over_divisors : (ℕ → C) → ℕ → ℕ → C
  over_divisors phi m n = total (muls o) n (part phi m)

  -- the product over the divisors of m is x^m - 1
  abbrev pub IsProductAt : C → (ℕ → C) → ℕ → Type 0
  IsProductAt x phi m = over_divisors phi m m ≡ less o (power o x m) o.one
