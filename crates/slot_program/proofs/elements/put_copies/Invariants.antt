use Rattle.std.proofs.Common.{◌≡◌, ◌++◌, replicate}
use Rattle.slot_program.proofs.elements.put_copies.Given as goal

abbrev pub invariant-loop : goal.invariant-loop
invariant-loop l = l.elems.items ≡ l.fn.elems.items ++ replicate l.counter l.element
