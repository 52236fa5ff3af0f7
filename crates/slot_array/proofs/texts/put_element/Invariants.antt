use Rattle.std.proofs.Common.{◌≡◌, ◌++◌, drop}
use Rattle.slot_array.specs.SlotsText.{element_text}
use Rattle.slot_array.proofs.texts.put_element.Given as goal

abbrev pub invariant-loop-i : goal.invariant-loop-i
invariant-loop-i l = l.text.items ++ element_text (drop l.i l.coeffs) ≡ l.fn.text.items ++ element_text l.coeffs
