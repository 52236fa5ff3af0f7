use Rattle.std.proofs.Common.{◌≡◌, ◌++◌, drop}
use Rattle.slot_array.specs.SlotsText.{slots_text}
use Rattle.slot_array.proofs.texts.print_slots.Given as goal

abbrev pub invariant-loop-element : goal.invariant-loop-element
invariant-loop-element l = l.text.items ++ slots_text (drop l.element-index l.element-items) ≡ slots_text l.element-items
