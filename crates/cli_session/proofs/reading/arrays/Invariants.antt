use Rattle.std.proofs.Common.{◌≡◌, drop, length, IsTrue}
use Rattle.std.specs.Prelude.{All}
use Rattle.slot_array.specs.Arrays.{IsArray}
use Rattle.cli_machine.specs.Machine.{arrays_on}
use Rattle.cli_session.proofs.ClauseLaws.{after}
use Rattle.cli_session.proofs.reading.arrays.Given as goal

abbrev pub invariant-loop-name : goal.invariant-loop-name
invariant-loop-name g l =
    (g.S.Shelf.tells l.shelf ≡ g.S.Shelf.tells l.fn.shelf)
    × (g.S.Shelf.files l.shelf ≡ g.S.Shelf.files l.fn.shelf)
    × (g.S.Shelf.faults l.shelf ≡ g.S.Shelf.faults l.fn.shelf)
    × All (λ a. IsArray l.slots.field l.slots.cube a) l.arrays.items
    × (length l.arrays.items ≡ l.name-index)
    × (IsTrue (g.S.Shelf.tells l.fn.shelf) → after l.arrays.items (arrays_on l.slots (drop l.name-index l.names) (g.S.Shelf.files l.fn.shelf)) ≡ arrays_on l.slots l.names (g.S.Shelf.files l.fn.shelf))
