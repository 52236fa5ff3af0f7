use Rattle.std.proofs.Common.{◌≡◌, ◌++◌, drop}
use Rattle.line_text.specs.Lines.{text_of_lines}
use Rattle.slot_program.specs.Printed.{lines_from}
use Rattle.slot_program.proofs.printing.print.Given as goal

abbrev pub invariant-loop-i : goal.invariant-loop-i
invariant-loop-i l =
    l.text.items ++ text_of_lines (lines_from l.i (drop l.i l.step-items)) ≡ text_of_lines (lines_from 0 l.step-items)
