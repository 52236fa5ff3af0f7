-- The bytes of printed words.
use Rattle.std.proofs.Common.{◌≡◌, ℕ, zero, suc, ◌-◌, ◌<◌, ◌≤◌, ◌^◌, ◌&&◌, ◌||◌, eqb, nat_lt, nat_le, not, Bool, true, false, cond, List, [], ◌∷◌, length, drop, Some, None, bytes_eq, refl, sym, ap, ◌∙◌, subst, arith}
use Rattle.std.specs.Prelude.{decimal}
use Rattle.std.specs.Char.{is_ascii_digit}
use Rattle.std.specs.List.{list_all, join_with_byte}
use Rattle.std.specs.Str.Parse.{digits_value}
use Rattle.std.proofs.lemmas.Bool.{eqb-true, lt-ltb, and_parts, and_from, both_ways}
use Rattle.std.proofs.lemmas.Bool.Decides.{nat_tests}
use Rattle.std.proofs.lemmas.List.Folds.{list_all-append}
use Rattle.std.proofs.lemmas.Slice.Eq.{bytes_eq-Decides}
use Rattle.line_text.specs.Pieces.{holds_byte}
use Rattle.line_text.specs.Words.{is_word}
use Rattle.line_text.specs.Lines.{is_plain_line, without_return}
use Rattle.line_text.specs.Numbers.{number_of, is_number}
use Rattle.line_text.proofs.NumberLemmas.{number_is_read}

-- bytes that pass a test hold none that does not
pub lacks : (test : ℕ → Bool) (c : ℕ) (bytes : List ℕ) → test c ≡ false → list_all test bytes ≡ true → holds_byte c bytes ≡ false
lacks test c [] fails all = refl
lacks test c (b ∷ bytes) fails all =
    let parts = and_parts (test b) (list_all test bytes) all in
    by (eqb b c) refl parts.0 (lacks test c bytes fails parts.1)
  where
    by : (same : Bool) → eqb b c ≡ same → test b ≡ true → holds_byte c bytes ≡ false → (same || holds_byte c bytes) ≡ false
    by true is here later = absurd (both_ways (test c) fails (subst (λ x. test x ≡ true) (eqb-true b c is) here))
    by false is here later = later

pub all_weaker : (p q : ℕ → Bool) → ((x : ℕ) → p x ≡ true → q x ≡ true) → (xs : List ℕ) → list_all p xs ≡ true → list_all q xs ≡ true
all_weaker p q weaker [] all = refl
all_weaker p q weaker (x ∷ xs) all =
    let parts = and_parts (p x) (list_all p xs) all in
    and_from (q x) (list_all q xs) (weaker x parts.0) (all_weaker p q weaker xs parts.1)

pub all_joined : (test : ℕ → Bool) (c : ℕ) (words : List (List ℕ)) → test c ≡ true → list_all (list_all test) words ≡ true → list_all test (join_with_byte c words) ≡ true
all_joined test c [] passes all = refl
all_joined test c (word ∷ []) passes all = (and_parts (list_all test word) true all).0
all_joined test c (word ∷ next ∷ words) passes all =
    let parts = and_parts (list_all test word) (list_all (list_all test) (next ∷ words)) all in
    list_all-append test word (c ∷ join_with_byte c (next ∷ words))
    ∙ and_from (list_all test word) _ parts.0 (and_from (test c) _ passes (all_joined test c (next ∷ words) passes parts.1))

all_drop : (test : ℕ → Bool) (n : ℕ) (xs : List ℕ) → list_all test xs ≡ true → list_all test (drop n xs) ≡ true
all_drop test zero xs all = all
all_drop test (suc n) [] all = refl
all_drop test (suc n) (x ∷ xs) all = all_drop test n xs (and_parts (test x) (list_all test xs) all).1

-- above the space
abbrev pub is_high : ℕ → Bool
is_high byte = nat_lt 32 byte

-- bytes above the space, and some
abbrev pub is_clean : List ℕ → Bool
is_clean word = nat_lt 0 (length word) && list_all is_high word

pub clean_word : (word : List ℕ) → is_clean word ≡ true → is_word word ≡ true
clean_word word clean =
    let parts = and_parts (nat_lt 0 (length word)) (list_all is_high word) clean in
    and_from (nat_lt 0 (length word)) _ parts.0 (ap not (lacks is_high 32 word refl parts.1))

pub clean_words : (words : List (List ℕ)) → list_all is_clean words ≡ true → list_all is_word words ≡ true
clean_words [] all = refl
clean_words (word ∷ words) all =
    let parts = and_parts (is_clean word) (list_all is_clean words) all in
    and_from (is_word word) (list_all is_word words) (clean_word word parts.0) (clean_words words parts.1)

-- not below the space
abbrev is_seen : ℕ → Bool
is_seen byte = nat_lt 31 byte

high_seen : (byte : ℕ) → is_high byte ≡ true → is_seen byte ≡ true
high_seen byte high = grind (arith, nat_tests)

clean_seen : (words : List (List ℕ)) → list_all is_clean words ≡ true → list_all (list_all is_seen) words ≡ true
clean_seen [] all = refl
clean_seen (word ∷ words) all =
    let parts = and_parts (is_clean word) (list_all is_clean words) all in
    and_from (list_all is_seen word) _ (all_weaker is_high is_seen high_seen word (and_parts (nat_lt 0 (length word)) (list_all is_high word) parts.0).1) (clean_seen words parts.1)

pub same_bytes : (xs : List ℕ) → bytes_eq xs xs ≡ true
same_bytes xs = (bytes_eq-Decides xs xs).1 refl

no_return : (line : List ℕ) → list_all is_seen line ≡ true → bytes_eq (drop (length line - 1) line) (13 ∷ []) ≡ false
no_return line all = by (bytes_eq (drop (length line - 1) line) (13 ∷ [])) refl
  where
    by : (b : Bool) → bytes_eq (drop (length line - 1) line) (13 ∷ []) ≡ b → b ≡ false
    by false is = refl
    by true is =
        let last : drop (length line - 1) line ≡ 13 ∷ [] = (bytes_eq-Decides _ _).0 is in
        let seen : list_all is_seen (13 ∷ []) ≡ true = rw last at (all_drop is_seen (length line - 1) line all) in
        absurd (cc)

whole_line : (line : List ℕ) → list_all is_seen line ≡ true → without_return line ≡ line
unfolding without_return
whole_line line all = rw (no_return line all) refl

-- clean words make a line that is read as it stands
pub clean_line : (words : List (List ℕ)) → list_all is_clean words ≡ true → is_plain_line (join_with_byte 32 words) ≡ true
clean_line words all =
    let line = join_with_byte 32 words in
    let seen : list_all is_seen line ≡ true = all_joined is_seen 32 words refl (clean_seen words all) in
    and_from (not (holds_byte 10 line)) _ (ap not (lacks is_seen 10 line refl seen)) ((bytes_eq-Decides (without_return line) line).1 (whole_line line seen))

-- 1 to 20 digits
pub record IsNumeral (word : List ℕ) : Type 0 where
  pub some_digit : 1 ≤ length word
  pub short : length word ≤ 20
  pub digits : list_all is_ascii_digit word ≡ true

numeral_of : (word : List ℕ) (n : ℕ) → number_of word ≡ Some n → IsNumeral word
unfolding number_of is_number
numeral_of word n is = by (nat_le 1 (length word) && nat_le (length word) 20 && list_all is_ascii_digit word && nat_lt (digits_value 10 word) (2 ^ 64)) refl is
  where
    by : (b : Bool) → (nat_le 1 (length word) && nat_le (length word) 20 && list_all is_ascii_digit word && nat_lt (digits_value 10 word) (2 ^ 64)) ≡ b → cond b (Some (digits_value 10 word)) None ≡ Some n → IsNumeral word
    by false test read = absurd (cc)
    by true test read =
        let first = and_parts _ _ test in
        let second = and_parts _ _ first.0 in
        let third = and_parts (nat_le 1 (length word)) (nat_le (length word) 20) second.0 in
        record { some_digit = grind (arith, nat_tests, third.0); short = grind (arith, nat_tests, third.1); digits = second.1 }

pub decimal_is : (n : ℕ) → n < 2 ^ 64 → IsNumeral (decimal n)
decimal_is n small = numeral_of (decimal n) n (number_is_read n small)

-- different numbers are written differently
pub decimal_same : (a b : ℕ) → a < 2 ^ 64 → b < 2 ^ 64 → decimal a ≡ decimal b → a ≡ b
decimal_same a b small_a small_b same =
    let one = number_is_read a small_a in
    let two = number_is_read b small_b in
    let joined : Some a ≡ Some b = sym one ∙ ap number_of same ∙ two in
    cc

digit_high : (byte : ℕ) → is_ascii_digit byte ≡ true → is_high byte ≡ true
digit_high byte digit = grind (arith, nat_tests)

pub clean_decimal : (n : ℕ) → n < 2 ^ 64 → is_clean (decimal n) ≡ true
clean_decimal n small =
    let is = decimal_is n small in
    and_from (nat_lt 0 (length (decimal n))) _ (lt-ltb 0 (length (decimal n)) (omega (arith, is.some_digit))) (all_weaker is_ascii_digit is_high digit_high (decimal n) is.digits)
