use Rattle.std.specs.Prelude.{◌≡◌, ◌<◌, ℕ, Bool, false, ◌==◌, List, length}
use Rattle.std.specs.List.{list_any, slice_split, join_with_byte}

-- the pieces of a text between separators, one more than there are separators
unfoldable pub pieces : ℕ → List ℕ → List (List ℕ)
pieces separator text = slice_split (λ byte. byte == separator) text

-- whether a byte stands in a piece
abbrev pub holds_byte : ℕ → List ℕ → Bool
holds_byte separator piece = list_any (λ byte. byte == separator) piece

-- there is a piece, no piece holds the separator, and joined by it they are the text
pub record ArePieces (separator : ℕ) (text : List ℕ) (list : List (List ℕ)) : Type 0 where
  pub some_piece : 0 < length list
  pub apart : list_any (holds_byte separator) list ≡ false
  pub joined : join_with_byte separator list ≡ text

-- these three facts hold of the pieces of a text, and of no other list
abbrev pub ArePiecesAlone : Type 0
ArePiecesAlone = (separator : ℕ) (text : List ℕ)
    → ArePieces separator text (pieces separator text)
    × ((list : List (List ℕ)) → ArePieces separator text list → list ≡ pieces separator text)
