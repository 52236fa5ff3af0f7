use Rattle.slot_laws.proofs.Places.{inverse_law}
use Rattle.slot_laws.proofs.slots.law_inverse.Goals as goal

pub returns : goal.returns
returns c = inverse_law
