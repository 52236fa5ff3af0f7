-- The printed text of an array is read as that array.
use Rattle.std.proofs.Common.{◌≡◌, ℕ, suc, ◌-◌, ◌^◌, ◌<◌, ◌≤◌, Bool, true, false, ◌&&◌, List, [], ◌∷◌, ◌++◌, map, length, take, drop, get_or, nat_lt, nat_le, nat_eq, decimal, refl, ap, ap₂, sym, ◌∙◌, subst, arith, Ok}
use Rattle.std.specs.Prelude.{not, All, if◌then◌else◌}
use Rattle.std.specs.Char.{digit_value}
use Rattle.std.specs.List.{AllZip, list_all, join_with_byte}
use Rattle.std.specs.Str.{bytes_eq}
use Rattle.std.specs.Str.Parse.{AllDigits, IsNumeral, digits_value}
use Rattle.std.proofs.lemmas.Bool.Decides.{nat_tests}
use Rattle.std.proofs.lemmas.Fmt.{decimal_is_IsNumeral}
use Rattle.std.proofs.lemmas.Slice.Eq.{bytes_eq-Decides}
use Rattle.std.proofs.Math.Seq.{drop-cons}
use Rattle.std.proofs.lemmas.List.Folds.{flat_map-map, list_all-append}
use Rattle.std.proofs.lemmas.Str.Parse.{digit_from_value}
use Rattle.line_text.specs.Pieces.{holds_byte}
use Rattle.line_text.specs.Lines.{lines_of, without_return, is_plain_line}
use Rattle.line_text.specs.Words.{words_of, is_word}
use Rattle.line_text.proofs.NumberLemmas.{number_is_read}
use Rattle.line_text.proofs.RoundTrips.{printed_lines_are_read, printed_words_are_read}
use Rattle.hyper_cube.specs.Torus.{Torus, slot_count}
use Rattle.ext_field.specs.Element.{Extension, IsMonicFactor, IsElement}
use Rattle.ext_field.proofs.Rows.{element_below}
use Rattle.slot_array.specs.Arrays.{Array, IsArray}
use Rattle.slot_array.specs.SlotsText.{elements_from, slots_of, element_text, slots_text}
use Rattle.slot_array.proofs.ReadLines.{WritesNumber, Writes, element_from, elements_ok}

-- each byte is at least this
abbrev AllFrom : ℕ → List ℕ → Type 0
AllFrom low bytes = list_all (λ byte. nat_le low byte) bytes ≡ true

both : (a b : Bool) → a && b ≡ true → (a ≡ true) × (b ≡ true)
both true b h = (refl, h)
both false b h = absurd (cc)

high_digit : (byte : ℕ) → digit_value byte < 10 → nat_le 48 byte ≡ true
high_digit byte small = let range = digit_from_value byte small in grind (arith, nat_tests)

digits_high : (word : List ℕ) → AllDigits 10 word → AllFrom 48 word
digits_high [] they = refl
digits_high (byte ∷ word) they = rw (high_digit byte they.0) (digits_high word they.1)

lower : (bytes : List ℕ) → AllFrom 48 bytes → AllFrom 32 bytes
lower [] h = refl
lower (byte ∷ bytes) h = let parts : (nat_le 48 byte ≡ true) × AllFrom 48 bytes = both (nat_le 48 byte) (list_all (λ byte. nat_le 48 byte) bytes) h in rw (from byte parts.0) (lower bytes parts.1)
  where
    from : (byte : ℕ) → nat_le 48 byte ≡ true → nat_le 32 byte ≡ true
    from byte h = grind (arith, nat_tests)

no_byte : (low byte : ℕ) → byte < low → (bytes : List ℕ) → AllFrom low bytes → holds_byte byte bytes ≡ false
no_byte low byte l [] h = refl
no_byte low byte l (b ∷ bytes) h = let parts : (nat_le low b ≡ true) × AllFrom low bytes = both (nat_le low b) (list_all (λ byte. nat_le low byte) bytes) h in rw (differs b parts.0) (no_byte low byte l bytes parts.1)
  where
    differs : (b : ℕ) → nat_le low b ≡ true → nat_eq b byte ≡ false
    differs b h = grind (arith, nat_tests)

last_from : (low : ℕ) (b : ℕ) (bytes : List ℕ) → AllFrom low (b ∷ bytes) → nat_le low (get_or (b ∷ bytes) (length bytes) 0) ≡ true
last_from low b [] h = (both (nat_le low b) true h).0
last_from low b (c ∷ bytes) h = last_from low c bytes (both (nat_le low b) (list_all (λ byte. nat_le low byte) (c ∷ bytes)) h).1

plain_end : (line : List ℕ) → AllFrom 32 line → without_return line ≡ line
unfolding without_return
plain_end [] h = refl
plain_end (b ∷ bytes) h = ap (λ t. if t then take (length (b ∷ bytes) - 1) (b ∷ bytes) else b ∷ bytes) (ap (λ n. bytes_eq (drop n (b ∷ bytes)) (13 ∷ [])) e ∙ ap (λ d. bytes_eq d (13 ∷ [])) (drop-cons (b ∷ bytes) (length bytes) 0 within) ∙ other (get_or (b ∷ bytes) (length bytes) 0) (drop (suc (length bytes)) (b ∷ bytes)) (last_from 32 b bytes h))
  where
    within : length bytes < length (b ∷ bytes)
    within = omega arith

    e : length (b ∷ bytes) - 1 ≡ length bytes
    e = omega arith

    other : (x : ℕ) (rest : List ℕ) → nat_le 32 x ≡ true → bytes_eq (x ∷ rest) (13 ∷ []) ≡ false
    other x rest h = let no : nat_eq x 13 ≡ false = grind (arith, nat_tests) in rw no refl

same_bytes : (line : List ℕ) → bytes_eq line line ≡ true
same_bytes line = (bytes_eq-Decides line line).1 refl

pub plain_line : (line : List ℕ) → AllFrom 32 line → is_plain_line line ≡ true
plain_line line h = ap₂ (λ a b. not a && bytes_eq b line) (no_byte 32 10 (omega arith) line h) (plain_end line h) ∙ same_bytes line

joined : (words : List (List ℕ)) → list_all (λ word. list_all (λ byte. nat_le 32 byte) word) words ≡ true → AllFrom 32 (join_with_byte 32 words)
joined [] h = refl
joined (word ∷ []) h = (both (list_all (λ byte. nat_le 32 byte) word) true h).0
joined (word ∷ next ∷ words) h = let parts = both (list_all (λ byte. nat_le 32 byte) word) (list_all (λ word. list_all (λ byte. nat_le 32 byte) word) (next ∷ words)) h in list_all-append (λ byte. nat_le 32 byte) word (32 ∷ join_with_byte 32 (next ∷ words)) ∙ ap₂ (λ a b. a && b) parts.0 (joined (next ∷ words) parts.1)

-- numbers below 2^64, and their words
abbrev AreSmall : List ℕ → Type 0
AreSmall numbers = All (λ n. n < 2 ^ 64) numbers

small_first : (n : ℕ) (numbers : List ℕ) → AreSmall (n ∷ numbers) → n < 2 ^ 64
small_first n numbers h = h 0 0 (omega arith)

small_rest : (n : ℕ) (numbers : List ℕ) → AreSmall (n ∷ numbers) → AreSmall numbers
small_rest n numbers h = λ k d l. h (suc k) d (omega arith)

high_words : (numbers : List ℕ) → AreSmall numbers → list_all (λ word. list_all (λ byte. nat_le 32 byte) word) (map decimal numbers) ≡ true
high_words [] h = refl
high_words (n ∷ numbers) h = ap₂ (λ a b. a && b) (lower (decimal n) (digits_high (decimal n) (decimal_is_IsNumeral n (small_first n numbers h)).0.1)) (high_words numbers (small_rest n numbers h))

are_words : (numbers : List ℕ) → AreSmall numbers → list_all is_word (map decimal numbers) ≡ true
are_words [] h = refl
are_words (n ∷ numbers) h = ap₂ (λ a b. a && b) (ap₂ (λ a b. a && not b) some (no_byte 48 32 (omega arith) (decimal n) (digits_high (decimal n) written.0.1))) (are_words numbers (small_rest n numbers h))
  where
    written : IsNumeral 10 (decimal n) × (digits_value 10 (decimal n) ≡ n)
    written = decimal_is_IsNumeral n (small_first n numbers h)

    some : nat_lt 0 (length (decimal n)) ≡ true
    some = let long : 1 ≤ length (decimal n) = written.0.0 in grind (arith, nat_tests)

written_numbers : (numbers : List ℕ) → AreSmall numbers → AllZip WritesNumber (map decimal numbers) numbers
written_numbers [] h = tt
written_numbers (n ∷ numbers) h = (number_is_read n (small_first n numbers h), written_numbers numbers (small_rest n numbers h))

pub printed_words : (numbers : List ℕ) → AreSmall numbers → AllZip WritesNumber (words_of (element_text numbers)) numbers
printed_words numbers h = subst (λ words. AllZip WritesNumber words numbers) (sym (printed_words_are_read (map decimal numbers) (are_words numbers h))) (written_numbers numbers h)

plain_text : (numbers : List ℕ) → AreSmall numbers → is_plain_line (element_text numbers) ≡ true
plain_text numbers h = plain_line (element_text numbers) (joined (map decimal numbers) (high_words numbers h))

module _ (f : Extension) (F : IsMonicFactor f) where
  small : (x : List ℕ) → IsElement f x → AreSmall x
  small x h k d l = omega (arith, element_below f x h k d l, F.p_high)

  plain_lines : (a : Array) → All (λ x. IsElement f x) a → list_all is_plain_line (map element_text a) ≡ true
  plain_lines [] h = refl
  plain_lines (x ∷ a) h = ap₂ (λ p q. p && q) (plain_text x (small x (h 0 [] (omega arith)))) (plain_lines a (λ k d l. h (suc k) d (omega arith)))

  written_lines : (a : Array) → All (λ x. IsElement f x) a → AllZip (Writes f) (map element_text a) a
  written_lines [] h = tt
  written_lines (x ∷ a) h = (element_from f (element_text x) x (record { element = h 0 [] (omega arith); words = printed_words x (small x (h 0 [] (omega arith))) }), written_lines a (λ k d l. h (suc k) d (omega arith)))

  pub printed_is_read : (c : Torus) (a : Array) → IsArray f c a → slots_of f c (slots_text a) ≡ Ok a
  unfolding slots_of slots_text
  printed_is_read c a A = ap (elements_from f 1 (slot_count c)) (ap lines_of (sym (flat_map-map (λ line. line ++ 10 ∷ []) element_text a)) ∙ printed_lines_are_read (map element_text a) (plain_lines a A.elements)) ∙ elements_ok f 1 (slot_count c) (map element_text a) a A.long (written_lines a A.elements)
