use Rattle.slot_laws.proofs.SlotMaps.{powers_of_eta}
use Rattle.slot_laws.proofs.slots.law_powers_of_eta.Goals as goal

pub returns : goal.returns
returns c f g packing = powers_of_eta f g packing
