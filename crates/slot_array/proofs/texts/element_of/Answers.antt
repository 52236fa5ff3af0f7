use Rattle.std.proofs.Common.{sym, ◌∙◌}
use Rattle.slot_array.proofs.ReadLines.{line_refused}
use Rattle.slot_array.proofs.texts.element_of.Goals as goal

pub returns-then-not-are_coeffs-clause-value : goal.returns-then-not-are_coeffs-clause-value
returns-then-not-are_coeffs-clause-value c =
    let read = rw (c.in-Some.is, c.as_slice.ensures.value) at c.in_ok-numbers.ensures in
    let refused = rw c.as_slice-2.ensures.value at c.are_coeffs.ensures in
    line_refused c.args.ext.now c.p.result c.degree.result c.p.ensures.value c.degree.ensures.value c.args.line.now _ c.in_ok-words.ensures c.in-Some.numbers.items read (sym c.if-not-are_coeffs.true ∙ refused)
