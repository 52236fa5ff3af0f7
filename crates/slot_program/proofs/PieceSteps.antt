-- A text is cut at its first separator.
use Rattle.std.proofs.Common.{◌≡◌, ◌+◌, ◌-◌, ◌<◌, ◌≤◌, ℕ, ◌==◌, List, [], ◌∷◌, length, take, drop, arith}
use Rattle.std.specs.List.{position_or_len}
use Rattle.std.proofs.lemmas.List.{take_all, length-drop}
use Rattle.line_text.specs.Pieces.{pieces}
use Rattle.line_text.proofs.PieceLemmas.{pieces_cut, pieces_uncut}

pub cut_more : (separator end : ℕ) (text : List ℕ) → end ≡ position_or_len (λ byte. byte == separator) text → end < length text
    → pieces separator text ≡ take end text ∷ pieces separator (take (length text - (end + 1)) (drop (end + 1) text))
cut_more separator end text is found =
    let whole : take (length text - (end + 1)) (drop (end + 1) text) ≡ drop (end + 1) text = take_all _ (drop (end + 1) text) (omega (arith, length-drop (end + 1) text)) in
    rw whole (rw is (pieces_cut separator text (rw is at found)))

pub cut_last : (separator end : ℕ) (text : List ℕ) → end ≡ position_or_len (λ byte. byte == separator) text → length text ≤ end
    → pieces separator text ≡ text ∷ []
cut_last separator end text is none = (pieces_uncut separator text (rw is at none)).0
