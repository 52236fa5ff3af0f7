use Rattle.std.proofs.Common.{◌≡◌, ◌++◌, take}
use Rattle.slot_factor.proofs.powers.appended.Given as goal

abbrev pub invariant-loop-i : goal.invariant-loop-i
invariant-loop-i l = l.table.items ≡ l.fn.table.items ++ take l.i l.x
