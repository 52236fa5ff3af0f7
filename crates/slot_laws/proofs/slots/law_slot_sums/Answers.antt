use Rattle.slot_laws.proofs.EncodeSums.{slot_sums}
use Rattle.slot_laws.proofs.slots.law_slot_sums.Goals as goal

pub returns : goal.returns
returns c f g packing = slot_sums f g packing
