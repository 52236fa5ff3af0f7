use Rattle.std.proofs.Common.{◌≡◌, take}
use Rattle.slot_array.proofs.arrays.SlotArray.copy.Given as goal

abbrev pub invariant-loop-elem : goal.invariant-loop-elem
invariant-loop-elem l = l.elems.items ≡ take l.elem-index l.elem-items
