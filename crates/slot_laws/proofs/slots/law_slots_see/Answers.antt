use Rattle.slot_laws.proofs.SlotMaps.{slots_see}
use Rattle.slot_laws.proofs.slots.law_slots_see.Goals as goal

pub returns : goal.returns
returns c f g packing = slots_see f g packing
