use Rattle.std.proofs.Common.{◌≡◌, map, take, pos}
use Rattle.mod_ring.specs.Zq.{modulus_of}
use Rattle.slot_laws.specs.Slots.{balanced_row}
use Rattle.slot_factor.proofs.rows.balanced_of.Given as goal

abbrev pub invariant-loop-i : goal.invariant-loop-i
invariant-loop-i l = l.list.items ≡ balanced_row (modulus_of l.zq) (map pos (take l.i l.a))
