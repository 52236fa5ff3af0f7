use Rattle.std.proofs.Common.{◌≡◌, ◌<◌, ℕ, Bool, true, false, ◌==◌, List, [], ◌∷◌, ◌++◌, length, map, refl, sym, ap, ◌∙◌, arith, nat_lt, cond}
use Rattle.std.specs.List.{position_or_len, before_first, after_first}
use Rattle.std.proofs.lemmas.Bool.Decides.{nat_tests}
use Rattle.std.proofs.lemmas.List.{append_assoc, map_push}
use Rattle.line_text.specs.Pieces.{pieces}
use Rattle.line_text.specs.Lines.{without_return, without_empty_last, lines_of}
use Rattle.line_text.specs.Words.{words_of}
use Rattle.line_text.proofs.PieceLemmas.{pieces_cut, pieces_uncut, are_pieces_alone}

pub keeps_first : (piece : List ℕ) (list : List (List ℕ)) → 0 < length list → without_empty_last (piece ∷ list) ≡ piece ∷ without_empty_last list
keeps_first piece [] some = absurd (omega arith)
keeps_first [] (next ∷ more) some = refl
keeps_first (byte ∷ piece) (next ∷ more) some = refl

pub keeps_only : (piece : List ℕ) → 0 < length piece → without_empty_last (piece ∷ []) ≡ piece ∷ []
keeps_only [] some = absurd (omega arith)
keeps_only (byte ∷ piece) some = refl

pub lines_of-empty : lines_of [] ≡ []
unfolding lines_of pieces
lines_of-empty = refl

-- a text that is not empty has a first line, and the lines of what stands after it
pub lines_of-cut : (text : List ℕ) → 0 < length text → lines_of text ≡ without_return (before_first (λ byte. byte == 10) text) ∷ lines_of (after_first (λ byte. byte == 10) text)
unfolding lines_of
lines_of-cut text some = by_place (nat_lt (position_or_len (λ byte. byte == 10) text) (length text)) refl
  where
    by_place : (found : Bool) → nat_lt (position_or_len (λ byte. byte == 10) text) (length text) ≡ found → lines_of text ≡ without_return (before_first (λ byte. byte == 10) text) ∷ lines_of (after_first (λ byte. byte == 10) text)
    by_place true is =
        let cut = pieces_cut 10 text (grind (arith, nat_tests)) in
        let after = (are_pieces_alone 10 (after_first (λ byte. byte == 10) text)).0 in
        rw cut (ap (map without_return) (keeps_first _ _ after.some_piece))
    by_place false is =
        let uncut = pieces_uncut 10 text (grind (arith, nat_tests)) in
        rw (uncut.0, uncut.1, uncut.2) (ap (map without_return) (keeps_only text some) ∙ ap (λ rest. without_return text ∷ rest) (sym lines_of-empty))

-- one more line, in the loop that takes them one by one
pub lines_so_far : {X : Type 0} (view : X → List ℕ) (done : List X) (line : X) (rest : List ℕ) (whole : List (List ℕ))
    → 0 < length rest → view line ≡ without_return (before_first (λ byte. byte == 10) rest) → map view done ++ lines_of rest ≡ whole
    → map view (done ++ line ∷ []) ++ lines_of (after_first (λ byte. byte == 10) rest) ≡ whole
lines_so_far view done line rest whole some is so_far =
    let cut = lines_of-cut rest some in
    rw (map_push view done line, append_assoc, is) (rw cut at so_far)

pub words_of-empty : words_of [] ≡ []
unfolding words_of pieces
words_of-empty = refl

-- the words of a line are its first piece, if that is not empty, and the words of what stands after it
pub words_of-cut : (line : List ℕ) → words_of line ≡ cond (nat_lt 0 (length (before_first (λ byte. byte == 32) line))) (before_first (λ byte. byte == 32) line ∷ words_of (after_first (λ byte. byte == 32) line)) (words_of (after_first (λ byte. byte == 32) line))
unfolding words_of
words_of-cut line = by_place (nat_lt (position_or_len (λ byte. byte == 32) line) (length line)) refl
  where
    by_place : (found : Bool) → nat_lt (position_or_len (λ byte. byte == 32) line) (length line) ≡ found → words_of line ≡ cond (nat_lt 0 (length (before_first (λ byte. byte == 32) line))) (before_first (λ byte. byte == 32) line ∷ words_of (after_first (λ byte. byte == 32) line)) (words_of (after_first (λ byte. byte == 32) line))
    by_place true is = rw (pieces_cut 32 line (grind (arith, nat_tests))) refl
    by_place false is =
        let uncut = pieces_uncut 32 line (grind (arith, nat_tests)) in
        rw (uncut.0, uncut.1, uncut.2, words_of-empty) refl

pub words_so_far_more : {X : Type 0} (view : X → List ℕ) (done : List X) (word : X) (rest : List ℕ) (whole : List (List ℕ))
    → 0 < length (before_first (λ byte. byte == 32) rest) → view word ≡ before_first (λ byte. byte == 32) rest → map view done ++ words_of rest ≡ whole
    → map view (done ++ word ∷ []) ++ words_of (after_first (λ byte. byte == 32) rest) ≡ whole
words_so_far_more view done word rest whole some is so_far =
    let filled : nat_lt 0 (length (before_first (λ byte. byte == 32) rest)) ≡ true = grind (arith, nat_tests) in
    let cut : words_of rest ≡ before_first (λ byte. byte == 32) rest ∷ words_of (after_first (λ byte. byte == 32) rest) = words_of-cut rest ∙ rw filled refl in
    rw (map_push view done word, append_assoc, is) (rw cut at so_far)

pub words_so_far_same : {X : Type 0} (view : X → List ℕ) (done : List X) (rest : List ℕ) (whole : List (List ℕ))
    → length (before_first (λ byte. byte == 32) rest) ≡ 0 → map view done ++ words_of rest ≡ whole
    → map view done ++ words_of (after_first (λ byte. byte == 32) rest) ≡ whole
words_so_far_same view done rest whole none so_far =
    let empty : nat_lt 0 (length (before_first (λ byte. byte == 32) rest)) ≡ false = grind (arith, nat_tests) in
    let cut : words_of rest ≡ words_of (after_first (λ byte. byte == 32) rest) = words_of-cut rest ∙ rw empty refl in
    rw cut at so_far
