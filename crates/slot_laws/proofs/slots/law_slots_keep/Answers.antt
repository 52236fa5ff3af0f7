use Rattle.slot_laws.proofs.SlotMaps.{slots_keep}
use Rattle.slot_laws.proofs.slots.law_slots_keep.Goals as goal

pub returns : goal.returns
returns c f g packing = slots_keep f g packing
