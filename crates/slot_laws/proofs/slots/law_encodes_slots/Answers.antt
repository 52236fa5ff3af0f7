use Rattle.slot_laws.proofs.Encoding.{encodes_slots}
use Rattle.slot_laws.proofs.slots.law_encodes_slots.Goals as goal

pub returns : goal.returns
returns c f g packing = encodes_slots f g packing
