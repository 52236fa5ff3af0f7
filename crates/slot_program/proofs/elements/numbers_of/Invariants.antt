use Rattle.std.proofs.Common.{◌≡◌, map, drop}
use Rattle.slot_program.specs.Elements.{numbers_of}
use Rattle.slot_program.proofs.Fronts.{with_front}
use Rattle.slot_program.proofs.elements.numbers_of.Given as goal

abbrev pub invariant-loop-word : goal.invariant-loop-word
invariant-loop-word l =
    with_front l.numbers.items (numbers_of (map (λ word. word.now) (drop l.word-index l.words)))
    ≡ numbers_of (map (λ word. word.now) l.words)
