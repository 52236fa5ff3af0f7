-- The difference of two counts of ones is small.
use Rattle.std.proofs.Common.{ℕ, ◌%◌, ◌^◌, ◌≤◌, arith}
use Rattle.std.specs.Prelude.{pos, ◌-ℤ◌, count_ones, unsigned_abs}
use Rattle.std.proofs.lemmas.Nat.{ones-le}
use Rattle.std.proofs.lemmas.Int.{ints}

-- the ones of ten bits are ten at most
pub count_ones_ten : (n : ℕ) → count_ones (n % 2 ^ 10) ≤ 10
count_ones_ten n = ones-le 10 (n % 2 ^ 10) (omega arith)

pub abs_difference : (a b m : ℕ) → a ≤ m → b ≤ m → unsigned_abs (pos a -ℤ pos b) ≤ m
abs_difference a b m ha hb = omega (arith, ints)
