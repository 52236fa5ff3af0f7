use Rattle.std.proofs.Common.{◌≡◌, ◌<◌, ◌+◌, ◌*◌, ◌/◌, ◌%◌, ◌-◌, ℕ, Bool, true, false, ◌&&◌, nat_lt, ◌==◌, List, [], ◌∷◌, length, refl, sym, ap, arith, cond, Some, None, option_and_then}
use Rattle.std.specs.Char.{digit_value}
use Rattle.std.specs.List.{list_all}
use Rattle.std.proofs.lemmas.Bool.Decides.{nat_tests}
use Rattle.line_text.specs.Lines.{lines_of}
use Rattle.line_text.specs.Seeds.{is_seed_digit, bytes_of_digits, seed_of_line, only_line, seed_of, seed_digit, digits_of_bytes, is_seed, SpellsOneSeed}
use Rattle.line_text.proofs.RoundTrips.{and_true}

-- a digit has a value below 16, and is the digit of that value
digit_of_value : (byte : ℕ) → is_seed_digit byte ≡ true → (digit_value byte < 16) × (seed_digit (digit_value byte) ≡ byte)
unfolding is_seed_digit seed_digit
digit_of_value byte is = (grind (arith, nat_tests), grind (arith, nat_tests))

value_of_digit : (half : ℕ) → half < 16 → (is_seed_digit (seed_digit half) ≡ true) × (digit_value (seed_digit half) ≡ half)
unfolding is_seed_digit seed_digit
value_of_digit half small = (grind (arith, nat_tests), grind (arith, nat_tests))

-- the digits of a line write bytes whose digits are the line
pub digits_of-bytes_of : (n : ℕ) (line : List ℕ) → length line ≡ 2 * n → list_all is_seed_digit line ≡ true
    → (digits_of_bytes (bytes_of_digits line) ≡ line) × (length (bytes_of_digits line) ≡ n) × (list_all (λ byte. nat_lt byte 256) (bytes_of_digits line) ≡ true)
unfolding bytes_of_digits
digits_of-bytes_of n [] even are = (refl, omega arith, refl)
digits_of-bytes_of n (high ∷ []) even are = absurd (omega arith)
digits_of-bytes_of n (high ∷ low ∷ more) even are =
    let first = and_true (is_seed_digit high) _ are in
    let second = and_true (is_seed_digit low) _ first.1 in
    let upper = digit_of_value high first.0 in
    let lower = digit_of_value low second.0 in
    let rest = digits_of-bytes_of (n - 1) more (omega arith) second.1 in
    let quotient : (16 * digit_value high + digit_value low) / 16 ≡ digit_value high = omega (arith, lower.0) in
    let remainder : (16 * digit_value high + digit_value low) % 16 ≡ digit_value low = omega (arith, lower.0) in
    let small : nat_lt (16 * digit_value high + digit_value low) 256 ≡ true = grind (arith, nat_tests, upper.0, lower.0) in (
      rw (quotient, remainder, upper.1, lower.1) (ap (λ digits. high ∷ low ∷ digits) rest.0),
      omega (arith, rest.1),
      rw small rest.2,
    )

-- and back
pub bytes_of-digits_of : (bytes : List ℕ) → list_all (λ byte. nat_lt byte 256) bytes ≡ true
    → (bytes_of_digits (digits_of_bytes bytes) ≡ bytes) × (length (digits_of_bytes bytes) ≡ 2 * length bytes) × (list_all is_seed_digit (digits_of_bytes bytes) ≡ true)
unfolding bytes_of_digits
bytes_of-digits_of [] small = (refl, refl, refl)
bytes_of-digits_of (byte ∷ bytes) small =
    let parts = and_true (nat_lt byte 256) _ small in
    let below : byte < 256 = grind (arith, nat_tests) in
    let upper = value_of_digit (byte / 16) (omega arith) in
    let lower = value_of_digit (byte % 16) (omega arith) in
    let rest = bytes_of-digits_of bytes parts.1 in
    let whole : 16 * (byte / 16) + byte % 16 ≡ byte = omega arith in (
      rw (upper.1, lower.1, whole) (ap (λ more. byte ∷ more) rest.0),
      omega (arith, rest.1),
      rw (upper.0, lower.0) rest.2,
    )

seed_of_line-from : (line seed : List ℕ) → seed_of_line line ≡ Some seed → (is_seed seed ≡ true) × (line ≡ digits_of_bytes seed)
unfolding seed_of_line
seed_of_line-from line seed is = by_test (length line == 64 && list_all is_seed_digit line) refl is
  where
    by_test : (test : Bool) → (length line == 64 && list_all is_seed_digit line) ≡ test → cond test (Some (bytes_of_digits line)) None ≡ Some seed → (is_seed seed ≡ true) × (line ≡ digits_of_bytes seed)
    by_test false not_it is = absurd (cc)
    by_test true it is =
        let parts = and_true (length line == 64) _ it in
        let even : length line ≡ 2 * 32 = grind (arith, nat_tests) in
        let back = digits_of-bytes_of 32 line even parts.1 in
        let same : bytes_of_digits line ≡ seed = cc in
        let whole : (length (bytes_of_digits line) == 32) ≡ true = grind (arith, nat_tests, back.1) in
        let seed_is : is_seed (bytes_of_digits line) ≡ true = rw (whole, back.2) refl in
        (rw same at seed_is, sym (rw same at back.0))

seed_of_line-to : (seed : List ℕ) → is_seed seed ≡ true → seed_of_line (digits_of_bytes seed) ≡ Some seed
unfolding seed_of_line
seed_of_line-to seed is =
    let parts = and_true (length seed == 32) _ is in
    let back = bytes_of-digits_of seed parts.1 in
    let whole : (length (digits_of_bytes seed) == 64) ≡ true = grind (arith, nat_tests, back.1) in
    rw (whole, back.2, back.0) refl

only_line-from : (lines : List (List ℕ)) (seed : List ℕ) → option_and_then seed_of_line (only_line lines) ≡ Some seed → (is_seed seed ≡ true) × (lines ≡ digits_of_bytes seed ∷ [])
only_line-from [] seed is = absurd (cc)
only_line-from (line ∷ []) seed is =
    let spelled = seed_of_line-from line seed is in
    (spelled.0, ap (λ (only : List ℕ). only ∷ []) spelled.1)
only_line-from (line ∷ next ∷ more) seed is = absurd (cc)

pub spells_one_seed : SpellsOneSeed
unfolding seed_of
spells_one_seed text seed = (
  λ is. only_line-from (lines_of text) seed is,
  λ they. rw they.1 (seed_of_line-to seed they.0),
)
