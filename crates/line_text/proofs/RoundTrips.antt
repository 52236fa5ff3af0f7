use Rattle.std.proofs.Common.{◌≡◌, ◌<◌, ℕ, Bool, true, false, not, ◌&&◌, nat_lt, List, [], ◌∷◌, ◌++◌, length, map, filter, refl, ap, arith}
use Rattle.std.specs.List.{list_all, list_any}
use Rattle.std.proofs.lemmas.List.{append_assoc}
use Rattle.std.proofs.lemmas.Slice.Eq.{bytes_eq-Decides}
use Rattle.line_text.specs.Pieces.{pieces, holds_byte}
use Rattle.line_text.specs.Lines.{lines_of, without_return, without_empty_last, is_plain_line, text_of_lines, ReadsPrintedLines}
use Rattle.line_text.specs.Words.{words_of, is_word, ReadsPrintedWords}
use Rattle.line_text.proofs.PieceLemmas.{pieces-piece, pieces-last, pieces-join, are_pieces_alone}
use Rattle.line_text.proofs.LineLemmas.{keeps_first, keeps_only, lines_of-empty, words_of-empty}

pub and_true : (a b : Bool) → (a && b) ≡ true → (a ≡ true) × (b ≡ true)
and_true true b is = (refl, is)
and_true false b is = absurd (cc)

not_true : (a : Bool) → not a ≡ true → a ≡ false
not_true true is = absurd (cc)
not_true false is = refl

-- a line with a newline after it is read first
lines_of-line : (line rest : List ℕ) → is_plain_line line ≡ true → lines_of (line ++ 10 ∷ rest) ≡ line ∷ lines_of rest
unfolding lines_of
lines_of-line line rest plain =
    let parts = and_true (not (holds_byte 10 line)) _ plain in
    let same : without_return line ≡ line = (bytes_eq-Decides (without_return line) line).0 parts.1 in
    rw (pieces-piece 10 line rest (not_true _ parts.0), keeps_first line (pieces 10 rest) (are_pieces_alone 10 rest).0.some_piece) (ap (λ first. first ∷ map without_return (without_empty_last (pieces 10 rest))) same)

pub printed_lines_are_read : ReadsPrintedLines
printed_lines_are_read [] plain = lines_of-empty
printed_lines_are_read (line ∷ list) plain =
    let parts = and_true (is_plain_line line) (list_all is_plain_line list) plain in
    rw (append_assoc line (10 ∷ []) (text_of_lines list), lines_of-line line (text_of_lines list) parts.0) (ap (λ rest. line ∷ rest) (printed_lines_are_read list parts.1))

-- a line alone, with no newline
pub lines_of-only : (line : List ℕ) → 0 < length line → holds_byte 10 line ≡ false → without_return line ≡ line → lines_of line ≡ line ∷ []
unfolding lines_of
lines_of-only line some apart same = rw (pieces-last 10 line apart, keeps_only line some, same) refl

words_apart : (list : List (List ℕ)) → list_all is_word list ≡ true → list_any (holds_byte 32) list ≡ false
words_apart [] are = refl
words_apart (word ∷ list) are =
    let parts = and_true (is_word word) (list_all is_word list) are in
    let facts = and_true (nat_lt 0 (length word)) _ parts.0 in
    rw (not_true _ facts.1) (words_apart list parts.1)

words_stay : (list : List (List ℕ)) → list_all is_word list ≡ true → filter (λ piece. nat_lt 0 (length piece)) list ≡ list
words_stay [] are = refl
words_stay (word ∷ list) are =
    let parts = and_true (is_word word) (list_all is_word list) are in
    let facts = and_true (nat_lt 0 (length word)) _ parts.0 in
    rw facts.0 (ap (λ rest. word ∷ rest) (words_stay list parts.1))

pub printed_words_are_read : ReadsPrintedWords
unfolding words_of
printed_words_are_read [] are = words_of-empty
printed_words_are_read (word ∷ list) are =
    rw (pieces-join 32 (word ∷ list) (omega arith) (words_apart (word ∷ list) are)) (words_stay (word ∷ list) are)
