use Rattle.std.specs.Prelude.{◌≡◌, List, ℕ, Bool, not, ◌&&◌, length, nat_lt, filter, IsTrue}
use Rattle.std.specs.List.{list_all, join_with_byte}
use Rattle.line_text.specs.Pieces.{pieces, holds_byte}

-- the words of a line: its pieces between spaces that are not empty
unfoldable pub words_of : List ℕ → List (List ℕ)
words_of line = filter (λ piece. nat_lt 0 (length piece)) (pieces 32 line)

-- whether bytes are one word: there is one, and no space
abbrev pub is_word : List ℕ → Bool
is_word word = nat_lt 0 (length word) && not (holds_byte 32 word)

-- words that are printed with one space between are read as the same words
abbrev pub ReadsPrintedWords : Type 0
ReadsPrintedWords = (list : List (List ℕ)) → IsTrue (list_all is_word list) → words_of (join_with_byte 32 list) ≡ list
