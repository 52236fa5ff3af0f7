use Rattle.std.proofs.Common.{◌≡◌}
use Rattle.slot_array.proofs.Filled.{filled}
use Rattle.slot_array.proofs.Formulas.{turned_at}
use Rattle.slot_array.proofs.operations.rotation.Given as goal

abbrev pub invariant-loop-slot : goal.invariant-loop-slot
invariant-loop-slot l = l.elems.items ≡ filled (turned_at l.cube l.a l.dim l.amount) l.slot
