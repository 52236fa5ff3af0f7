use Rattle.std.proofs.Common.{◌≡◌, ◌<◌, ◌+◌, ◌*◌, ℕ, Bool, true, false, ◌==◌, ◌&&◌, List, [], ◌∷◌, ◌++◌, length, take, drop, set, get_or, refl, sym, ap, ◌∙◌, arith, cond, Some, None}
use Rattle.std.specs.Char.{digit_value}
use Rattle.std.specs.List.{list_all, before_first, after_first}
use Rattle.std.proofs.lemmas.List.{append-nil, append_assoc, drop_more, drop_all, take_all, take_more_set}
use Rattle.line_text.specs.Lines.{without_return, lines_of}
use Rattle.line_text.specs.Seeds.{is_seed_digit, bytes_of_digits, seed_of_line, only_line}
use Rattle.line_text.proofs.LineLemmas.{lines_of-cut, lines_of-empty}

-- the one line of a text: nothing stands after it
pub only_line-none : None ≡ only_line (lines_of [])
only_line-none = rw lines_of-empty refl

pub only_line-one : (text : List ℕ) → 0 < length text → length (after_first (λ byte. byte == 10) text) ≡ 0 → Some (without_return (before_first (λ byte. byte == 10) text)) ≡ only_line (lines_of text)
only_line-one text some last = rw (lines_of-cut text some) (no_more _ last)
  where
    no_more : (after : List ℕ) → length after ≡ 0 → Some (without_return (before_first (λ byte. byte == 10) text)) ≡ only_line (without_return (before_first (λ byte. byte == 10) text) ∷ lines_of after)
    no_more [] last = rw lines_of-empty refl
    no_more (byte ∷ after) last = absurd (omega arith)

pub only_line-more : (text : List ℕ) → 0 < length text → 0 < length (after_first (λ byte. byte == 10) text) → None ≡ only_line (lines_of text)
only_line-more text some more = rw (lines_of-cut text some, lines_of-cut _ more) refl

-- a line of another length, or with a byte that is no digit, spells no seed
pub seed_of_line-length : (line : List ℕ) → (length line == 64) ≡ false → None ≡ seed_of_line line
unfolding seed_of_line
seed_of_line-length line other = rw other refl

pub seed_of_line-digits : (line : List ℕ) → list_all is_seed_digit line ≡ false → None ≡ seed_of_line line
unfolding seed_of_line
seed_of_line-digits line other = rw other (never _)
  where
    never : (a : Bool) → None ≡ cond (a && false) (Some (bytes_of_digits line)) None
    never true = refl
    never false = refl

pub seed_of_line_is : (line : List ℕ) → length line ≡ 64 → list_all is_seed_digit line ≡ true → Some (bytes_of_digits line) ≡ seed_of_line line
unfolding seed_of_line
seed_of_line_is line is digits = rw (is, digits) refl

-- the two digits of the byte at a place
pair_at : (line : List ℕ) (i : ℕ) → 2 * i + 1 < length line → drop (2 * i) line ≡ get_or line (2 * i) 0 ∷ get_or line (2 * i + 1) 0 ∷ drop (2 * (i + 1)) line
pair_at line i within =
    let next : 2 * i + 1 + 1 ≡ 2 * (i + 1) = omega arith in
    drop_more line (2 * i) 0 (omega arith) ∙ ap (λ rest. get_or line (2 * i) 0 ∷ rest) (drop_more line (2 * i + 1) 0 within ∙ ap (λ k. get_or line (2 * i + 1) 0 ∷ drop k line) next)

pub digits-pair : (line : List ℕ) (i : ℕ) → 2 * i + 1 < length line → list_all is_seed_digit (drop (2 * i) line) ≡ (is_seed_digit (get_or line (2 * i) 0) && (is_seed_digit (get_or line (2 * i + 1) 0) && list_all is_seed_digit (drop (2 * (i + 1)) line)))
digits-pair line i within = rw (pair_at line i within) refl

pub bytes-pair : (line : List ℕ) (i : ℕ) → 2 * i + 1 < length line → bytes_of_digits (drop (2 * i) line) ≡ (16 * digit_value (get_or line (2 * i) 0) + digit_value (get_or line (2 * i + 1) 0)) ∷ bytes_of_digits (drop (2 * (i + 1)) line)
unfolding bytes_of_digits
bytes-pair line i within = rw (pair_at line i within) refl

-- a byte that is no digit, at either place of the pair
pub first_is_none : (line : List ℕ) (i : ℕ) → 2 * i + 1 < length line → is_seed_digit (get_or line (2 * i) 0) ≡ false → list_all is_seed_digit (drop (2 * i) line) ≡ list_all is_seed_digit line → None ≡ seed_of_line line
first_is_none line i within other same = seed_of_line-digits line (sym same ∙ digits-pair line i within ∙ rw other refl)

pub second_is_none : (line : List ℕ) (i : ℕ) → 2 * i + 1 < length line → is_seed_digit (get_or line (2 * i) 0) ≡ true → is_seed_digit (get_or line (2 * i + 1) 0) ≡ false → list_all is_seed_digit (drop (2 * i) line) ≡ list_all is_seed_digit line → None ≡ seed_of_line line
second_is_none line i within digit other same = seed_of_line-digits line (sym same ∙ digits-pair line i within ∙ rw (digit, other) refl)

-- one byte more
pub seed_more : (line seed : List ℕ) (i high low : ℕ) → 2 * i + 1 < length line → i < length seed
    → is_seed_digit (get_or line (2 * i) 0) ≡ true → is_seed_digit (get_or line (2 * i + 1) 0) ≡ true
    → high ≡ digit_value (get_or line (2 * i) 0) → low ≡ digit_value (get_or line (2 * i + 1) 0)
    → list_all is_seed_digit (drop (2 * i) line) ≡ list_all is_seed_digit line
    → take i seed ++ bytes_of_digits (drop (2 * i) line) ≡ bytes_of_digits line
    → (list_all is_seed_digit (drop (2 * (i + 1)) line) ≡ list_all is_seed_digit line)
    × (take (i + 1) (set seed i (16 * high + low)) ++ bytes_of_digits (drop (2 * (i + 1)) line) ≡ bytes_of_digits line)
seed_more line seed i high low within place first second high_is low_is same so_far = (
  sym (digits-pair line i within ∙ rw (first, second) refl) ∙ same,
  rw (take_more_set seed i (16 * high + low) place, append_assoc, high_is, low_is) (rw (bytes-pair line i within) at so_far),
)

pub seed_whole : (line seed : List ℕ) → length line ≡ 64 → length seed ≡ 32
    → list_all is_seed_digit (drop 64 line) ≡ list_all is_seed_digit line
    → take 32 seed ++ bytes_of_digits (drop 64 line) ≡ bytes_of_digits line
    → Some seed ≡ seed_of_line line
unfolding bytes_of_digits
seed_whole line seed is whole same so_far =
    let none : drop 64 line ≡ [] = drop_all 64 line (omega arith) in
    let all : take 32 seed ≡ seed = take_all 32 seed (omega arith) in
    let digits : list_all is_seed_digit line ≡ true = sym same ∙ rw none refl in
    let bytes : seed ≡ bytes_of_digits line = sym (append-nil seed) ∙ rw (none, all) at so_far in
    ap (λ written. Some written) bytes ∙ seed_of_line_is line is digits
