use Rattle.slot_laws.proofs.SlotMaps.{slots_move}
use Rattle.slot_laws.proofs.slots.law_slots_move.Goals as goal

pub returns : goal.returns
returns c f g packing = slots_move f g packing
