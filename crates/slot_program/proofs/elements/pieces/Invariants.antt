use Rattle.std.proofs.Common.{◌≡◌, ◌++◌, map, length}
use Rattle.line_text.specs.Pieces.{pieces}
use Rattle.slot_program.proofs.elements.pieces.Given as goal

abbrev pub invariant-pieces : goal.invariant-pieces
invariant-pieces l = map (λ piece. piece.now) l.list.items ++ pieces l.separator l.rest ≡ pieces l.separator l.text

abbrev pub decreases-pieces : goal.decreases-pieces
decreases-pieces l = length l.rest
