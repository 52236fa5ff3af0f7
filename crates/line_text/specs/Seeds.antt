use Rattle.std.specs.Prelude.{◌≡◌, ◌↔◌, ◌+◌, ◌*◌, ◌/◌, ◌%◌, ℕ, Bool, ◌&&◌, ◌||◌, ◌==◌, List, [], ◌∷◌, length, nat_lt, nat_le, Option, Some, None, option_and_then, IsTrue, if◌then◌else◌}
use Rattle.std.specs.Char.{digit_value}
use Rattle.std.specs.List.{flat_map, list_all}
use Rattle.line_text.specs.Lines.{lines_of}

-- `0` to `9` or `a` to `f`
unfoldable pub is_seed_digit : ℕ → Bool
is_seed_digit byte = (nat_le 48 byte && nat_le byte 57) || (nat_le 97 byte && nat_le byte 102)

-- the bytes that digits write, two digits for each byte, the high half first
unfoldable pub bytes_of_digits : List ℕ → List ℕ
bytes_of_digits [] = []
bytes_of_digits (high ∷ []) = []
bytes_of_digits (high ∷ low ∷ more) = (16 * digit_value high + digit_value low) ∷ bytes_of_digits more

-- the seed that a line spells: it holds 64 digits and nothing else
unfoldable pub seed_of_line : List ℕ → Option (List ℕ)
seed_of_line line = if length line == 64 && list_all is_seed_digit line then Some (bytes_of_digits line) else None

-- the line of a text that has just one
abbrev pub only_line : List (List ℕ) → Option (List ℕ)
only_line [] = None
only_line (line ∷ []) = Some line
only_line (line ∷ next ∷ more) = None

-- the seed that a text spells: it has one line, which spells it
unfoldable pub seed_of : List ℕ → Option (List ℕ)
seed_of text = option_and_then seed_of_line (only_line (lines_of text))

-- the digit that writes 0 to 15
unfoldable pub seed_digit : ℕ → ℕ
seed_digit half = if nat_lt half 10 then 48 + half else 87 + half

-- the digits that write bytes, two for each byte, the high half first
abbrev pub digits_of_bytes : List ℕ → List ℕ
digits_of_bytes bytes = flat_map (λ byte. seed_digit (byte / 16) ∷ seed_digit (byte % 16) ∷ []) bytes

-- 32 bytes
abbrev pub is_seed : List ℕ → Bool
is_seed seed = length seed == 32 && list_all (λ byte. nat_lt byte 256) seed

-- a text spells just the seed whose digits are its one line
abbrev pub SpellsOneSeed : Type 0
SpellsOneSeed = (text seed : List ℕ)
    → (seed_of text ≡ Some seed) ↔ (IsTrue (is_seed seed) × (lines_of text ≡ digits_of_bytes seed ∷ []))
