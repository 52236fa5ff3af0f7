-- The first of some values, and tests of all numbers below one.
use Rattle.std.specs.Prelude.{ℕ, zero, suc, Bool, true, ◌&&◌, Option, None, Some, if◌then◌else◌}
use Rattle.std.specs.Option.{option_or}

-- the first that is there of f 0, f 1, .., f (n - 1)
unfoldable pub first_below : {A : Type 0} → ℕ → (ℕ → Option A) → Option A
first_below zero f = None
first_below (suc n) f = option_or (first_below n f) (f n)

-- the least number below n that passes the test
abbrev pub least_below : ℕ → (ℕ → Bool) → Option ℕ
least_below n test = first_below n (λ x. if test x then Some x else None)

-- each number below n passes the test
unfoldable pub all_below : ℕ → (ℕ → Bool) → Bool
all_below zero test = true
all_below (suc n) test = all_below n test && test n
