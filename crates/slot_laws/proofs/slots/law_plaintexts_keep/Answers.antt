use Rattle.slot_laws.proofs.SlotMaps.{plaintexts_keep}
use Rattle.slot_laws.proofs.slots.law_plaintexts_keep.Goals as goal

pub returns : goal.returns
returns c f g packing = plaintexts_keep f g packing
