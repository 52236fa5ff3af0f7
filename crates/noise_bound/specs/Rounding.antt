-- Whole numbers man * 2^exp with man below 2^32, and rounding up and down to them.
use Rattle.std.specs.Prelude.{◌≡◌, ℕ, ◌+◌, ◌-◌, ◌*◌, ◌/◌, ◌^◌, ◌<◌, ◌≤◌}
use Rattle.std.specs.Int.{div_ceil}
use Rattle.std.specs.Int.Count.{count_leading_zeros}

-- b is a mantissa of at most 32 bits times a power of two
pub record IsFloating (b : ℕ) : Type 0 where
  pub man : ℕ
  pub exp : ℕ
  pub fits : man < 2 ^ 32
  pub is : b ≡ man * 2 ^ exp

-- b is the least such number that is at least x
pub record IsUp (x b : ℕ) : Type 0 where
  pub floating : IsFloating b
  pub above : x ≤ b
  pub least : (c : ℕ) → IsFloating c → x ≤ c → b ≤ c

-- b is the greatest such number that is at most x
pub record IsDown (x b : ℕ) : Type 0 where
  pub floating : IsFloating b
  pub below : b ≤ x
  pub greatest : (c : ℕ) → IsFloating c → c ≤ x → c ≤ b

-- how many binary digits x has: of x digits, which are enough, all but the leading zeros
unfoldable pub bit_length : ℕ → ℕ
bit_length x = x - count_leading_zeros x x

-- how many of the lowest binary digits do not fit a mantissa
unfoldable pub exponent : ℕ → ℕ
exponent x = bit_length x - 32

-- the binary digits that fit, as a number
abbrev pub mantissa : ℕ → ℕ
mantissa x = x / 2 ^ exponent x

-- the number that IsUp has
unfoldable pub up : ℕ → ℕ
up x = div_ceil x (2 ^ exponent x) * 2 ^ exponent x

-- the number that IsDown has
unfoldable pub down : ℕ → ℕ
down x = mantissa x * 2 ^ exponent x

abbrev pub plus : ℕ → ℕ → ℕ
plus a b = up (a + b)

abbrev pub times : ℕ → ℕ → ℕ
times a b = up (a * b)

abbrev pub scale : ℕ → ℕ → ℕ
scale a k = up (a * k)

abbrev pub scale_down : ℕ → ℕ → ℕ
scale_down a k = down (a * k)

-- a * factor / modulus, rounded up to a whole number and then to a mantissa
abbrev pub over : ℕ → ℕ → ℕ → ℕ
over a factor modulus = up (div_ceil (a * factor) modulus)

abbrev pub ratio : ℕ → ℕ → ℕ
ratio a b = up (div_ceil a b)

-- a / (2 h), rounded down to a whole number and then to a mantissa
abbrev pub half_over : ℕ → ℕ → ℕ
half_over a h = down (a / (2 * h))
