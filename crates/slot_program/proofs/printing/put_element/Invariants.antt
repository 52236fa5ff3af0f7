use Rattle.std.proofs.Common.{◌≡◌, ◌++◌, drop}
use Rattle.slot_program.specs.Printed.{element_text}
use Rattle.slot_program.proofs.printing.put_element.Given as goal

abbrev pub invariant-loop-i : goal.invariant-loop-i
invariant-loop-i l = l.out.items ++ element_text (drop l.i l.element) ≡ l.fn.out.items ++ element_text l.element
