use Rattle.std.specs.Prelude.{◌≡◌, ◌^◌, ◌<◌, ℕ, Bool, ◌&&◌, List, length, nat_lt, nat_le, Option, Some, None, if◌then◌else◌, decimal}
use Rattle.std.specs.Char.{is_ascii_digit}
use Rattle.std.specs.List.{list_all}
use Rattle.std.specs.Str.Parse.{digits_value}

-- 1 to 20 decimal digits with a value below 2^64
unfoldable pub is_number : List ℕ → Bool
is_number word =
    nat_le 1 (length word) && nat_le (length word) 20 && list_all is_ascii_digit word && nat_lt (digits_value 10 word) (2 ^ 64)

-- the number that a word writes, if it writes one
unfoldable pub number_of : List ℕ → Option ℕ
number_of word = if is_number word then Some (digits_value 10 word) else None

-- the printed text of a number is read as that number
abbrev pub ReadsPrinted : Type 0
ReadsPrinted = (x : ℕ) → x < 2 ^ 64 → number_of (decimal x) ≡ Some x
