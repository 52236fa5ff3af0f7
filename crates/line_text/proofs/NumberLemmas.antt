use Rattle.std.proofs.Common.{◌≡◌, ◌<◌, ◌≤◌, ◌+◌, ◌*◌, ◌-◌, ◌^◌, ℕ, Bool, true, false, ◌&&◌, nat_lt, nat_le, List, [], ◌∷◌, ◌++◌, length, take, drop, set, ◌/◌, ◌%◌, get_or, refl, sym, ap, ◌∙◌, arith, cond, Some, None, decimal}
use Rattle.std.specs.Char.{is_ascii_digit, digit_value}
use Rattle.std.specs.List.{list_all}
use Rattle.std.specs.Str.Parse.{digits_value, AllDigits}
use Rattle.std.proofs.lemmas.Int.Digits.{digits_value_more}
use Rattle.std.proofs.lemmas.List.Sums.{AllPass-from_list_all}
use Rattle.std.proofs.lemmas.Bool.Decides.{nat_tests}
use Rattle.std.proofs.lemmas.Fmt.{decimal_is_IsNumeral, length-decimal-le, decimal_nonempty, decimal_step, decimal_digit}
use Rattle.std.proofs.lemmas.List.{append_assoc, drop-set, length_push}
use Rattle.std.proofs.lemmas.Str.Parse.{digit_from_value, digits_value-take-le}
use Rattle.line_text.specs.Numbers.{is_number, number_of, ReadsPrinted}

digit_below : (byte : ℕ) → digit_value byte < 10 → is_ascii_digit byte ≡ true
digit_below byte small =
    let range = digit_from_value byte small in
    grind (arith, nat_tests)

all_digits : (word : List ℕ) → AllDigits 10 word → list_all is_ascii_digit word ≡ true
all_digits [] they = refl
all_digits (byte ∷ word) they = rw (digit_below byte they.0) (all_digits word they.1)

-- a word in range of digits with a small value is that number
pub number_of_is : (word : List ℕ) → 1 ≤ length word → length word ≤ 20 → list_all is_ascii_digit word ≡ true → digits_value 10 word < 2 ^ 64 → number_of word ≡ Some (digits_value 10 word)
unfolding number_of is_number
number_of_is word some few digits small =
    let low : nat_le 1 (length word) ≡ true = grind (arith, nat_tests) in
    let high : nat_le (length word) 20 ≡ true = grind (arith, nat_tests) in
    let fits : nat_lt (digits_value 10 word) (2 ^ 64) ≡ true = grind (arith, nat_tests) in
    rw (low, high, digits, fits) refl

pub number_is_read : ReadsPrinted
number_is_read x small =
    let written = decimal_is_IsNumeral x small in
    let few : length (decimal x) ≤ 20 = length-decimal-le 20 x (omega arith) (omega arith) small in
    let read = number_of_is (decimal x) written.0.0 few (all_digits _ written.0.1) (rw written.1 small) in
    read ∙ ap (λ value. Some value) written.1

-- why a word is no number: its length, a byte that is no digit, or its value
pub number_of-length : (word : List ℕ) → nat_le 1 (length word) && nat_le (length word) 20 ≡ false → None ≡ number_of word
unfolding number_of is_number
number_of-length word out = rw out refl

pub number_of-digit : (word : List ℕ) (i : ℕ) → i < length word → is_ascii_digit (get_or word i 0) ≡ false → None ≡ number_of word
unfolding number_of is_number
number_of-digit word i within other = by_test (list_all is_ascii_digit word) refl
  where
    never : (a b : Bool) → cond (a && false && b) (Some (digits_value 10 word)) None ≡ None
    never true b = refl
    never false b = refl

    by_test : (test : Bool) → list_all is_ascii_digit word ≡ test → None ≡ cond (nat_le 1 (length word) && nat_le (length word) 20 && list_all is_ascii_digit word && nat_lt (digits_value 10 word) (2 ^ 64)) (Some (digits_value 10 word)) None
    by_test true is =
        let digit = AllPass-from_list_all is_ascii_digit word is i 0 within in
        absurd (cc)
    by_test false is = rw is (sym (never _ _))

pub number_of-value : (word : List ℕ) → 2 ^ 64 ≤ digits_value 10 word → None ≡ number_of word
unfolding number_of is_number
number_of-value word large = rw fits (sym (never _))
  where
    fits : nat_lt (digits_value 10 word) (2 ^ 64) ≡ false
    fits = grind (arith, nat_tests)

    never : (a : Bool) → cond (a && false) (Some (digits_value 10 word)) None ≡ None
    never true = refl
    never false = refl

-- the value of one digit more
pub value_of_more : (word : List ℕ) (i value : ℕ) → i < length word → is_ascii_digit (get_or word i 0) ≡ true → value ≡ digits_value 10 (take i word)
    → digits_value 10 (take (i + 1) word) ≡ value * 10 + (get_or word i 0 - 48)
value_of_more word i value within digit so_far =
    let more = digits_value_more 10 word i within in
    let this : digit_value (get_or word i 0) ≡ get_or word i 0 - 48 = grind (arith, nat_tests) in
    rw (more, this, so_far) refl

-- a part of the digits that writes too much is a part of a word that is no number
pub number_of-part : (word : List ℕ) (i : ℕ) → 2 ^ 64 ≤ digits_value 10 (take i word) → None ≡ number_of word
number_of-part word i large = number_of-value word (omega (arith, digits_value-take-le 10 word i (omega arith)))

-- the loop that prints: the digits are written from the last one on, before the place `start`
pub print_room : (rest start : ℕ) → rest < 2 ^ 64 → length (decimal rest) ≤ start → 1 ≤ start
print_room rest start small room = omega (arith, decimal_nonempty rest small)

pub print_more : (x rest start : ℕ) (digits : List ℕ) → rest < 2 ^ 64 → 10 ≤ rest → start ≤ length digits → length (decimal rest) ≤ start
    → decimal rest ++ drop start digits ≡ decimal x
    → (length (decimal (rest / 10)) ≤ start - 1) × (decimal (rest / 10) ++ drop (start - 1) (set digits (start - 1) (48 + rest % 10)) ≡ decimal x)
print_more x rest start digits small some within room so_far =
    let first = print_room rest start small room in
    let step = decimal_step rest some small in
    let longer : length (decimal rest) ≡ length (decimal (rest / 10)) + 1 = rw step (length_push _ _) in
    let written : drop (start - 1) (set digits (start - 1) (48 + rest % 10)) ≡ (48 + rest % 10) ∷ drop (start - 1 + 1) digits =
    drop-set digits (start - 1) _ (omega arith) in
    let next : start - 1 + 1 ≡ start = omega arith in
    let joined : decimal (rest / 10) ++ (48 + rest % 10) ∷ drop start digits ≡ decimal x =
    sym (append_assoc (decimal (rest / 10)) ((48 + rest % 10) ∷ []) (drop start digits)) ∙ rw step at so_far in
    (omega arith, rw (written, next) joined)

pub print_last : (x rest start : ℕ) (digits : List ℕ) → rest < 10 → 1 ≤ start → start ≤ length digits
    → decimal rest ++ drop start digits ≡ decimal x
    → drop (start - 1) (set digits (start - 1) (48 + rest % 10)) ≡ decimal x
print_last x rest start digits small first within so_far =
    let written : drop (start - 1) (set digits (start - 1) (48 + rest % 10)) ≡ (48 + rest % 10) ∷ drop (start - 1 + 1) digits =
    drop-set digits (start - 1) _ (omega arith) in
    let next : start - 1 + 1 ≡ start = omega arith in
    let whole : rest % 10 ≡ rest = omega arith in
    rw (written, next, whole) (rw (decimal_digit rest small) at so_far)
