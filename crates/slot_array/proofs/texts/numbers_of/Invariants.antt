use Rattle.std.proofs.Common.{◌≡◌, ◌++◌, map, drop, option_map}
use Rattle.slot_array.specs.SlotsText.{numbers_of}
use Rattle.slot_array.proofs.texts.numbers_of.Given as goal

abbrev pub invariant-loop-word : goal.invariant-loop-word
invariant-loop-word l =
    option_map (λ rest. l.numbers.items ++ rest) (numbers_of (map (λ word. word.items) (drop l.word-index l.words)))
    ≡ numbers_of (map (λ word. word.items) l.words)
