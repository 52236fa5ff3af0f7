use Rattle.std.proofs.Common.{◌≡◌, ◌≤◌, map, drop, length}
use Rattle.slot_program.specs.Elements.{elements_of}
use Rattle.slot_program.proofs.Fronts.{with_front}
use Rattle.slot_program.proofs.elements.list_of.Given as goal

abbrev pub invariant-loop-word : goal.invariant-loop-word
invariant-loop-word l =
    (with_front l.elems.items (elements_of l.ext (map (λ word. word.items) (drop l.word-index l.words)))
    ≡ elements_of l.ext (map (λ word. word.items) l.words))
    × (length l.elems.items ≤ l.count)
