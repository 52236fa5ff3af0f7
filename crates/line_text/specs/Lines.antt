use Rattle.std.specs.Prelude.{◌≡◌, ◌-◌, List, ℕ, Bool, not, ◌&&◌, [], ◌∷◌, ◌++◌, length, take, drop, map, IsTrue, if◌then◌else◌}
use Rattle.std.specs.List.{flat_map, list_all}
use Rattle.std.specs.Str.{bytes_eq}
use Rattle.line_text.specs.Pieces.{pieces, holds_byte}

-- the pieces but for an empty last one
abbrev pub without_empty_last : List (List ℕ) → List (List ℕ)
without_empty_last [] = []
without_empty_last ([] ∷ []) = []
without_empty_last (piece ∷ more) = piece ∷ without_empty_last more

-- a line without one byte 13 at its end
unfoldable pub without_return : List ℕ → List ℕ
without_return line =
    if bytes_eq (drop (length line - 1) line) (13 ∷ []) then take (length line - 1) line else line

-- the lines of a text: its pieces between newlines, where an empty one at the end is none
unfoldable pub lines_of : List ℕ → List (List ℕ)
lines_of text = map without_return (without_empty_last (pieces 10 text))

-- whether a line reads as it stands: it holds no newline, and no byte 13 at its end
abbrev pub is_plain_line : List ℕ → Bool
is_plain_line line = not (holds_byte 10 line) && bytes_eq (without_return line) line

-- lines as they are printed, a newline after each
abbrev pub text_of_lines : List (List ℕ) → List ℕ
text_of_lines list = flat_map (λ line. line ++ 10 ∷ []) list

-- printed lines are read as the same lines
abbrev pub ReadsPrintedLines : Type 0
ReadsPrintedLines = (list : List (List ℕ)) → IsTrue (list_all is_plain_line list) → lines_of (text_of_lines list) ≡ list
