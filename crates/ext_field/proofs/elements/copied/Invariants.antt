use Rattle.std.proofs.Common.{◌≡◌, take}
use Rattle.ext_field.proofs.elements.copied.Given as goal

abbrev pub invariant-loop-i : goal.invariant-loop-i
invariant-loop-i l = l.copies.items ≡ take l.i l.list
