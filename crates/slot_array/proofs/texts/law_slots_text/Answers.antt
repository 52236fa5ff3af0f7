use Rattle.slot_array.proofs.RoundTrip.{printed_is_read}
use Rattle.slot_array.proofs.TextLaws.{read_law, array_law, fault_law, numbered_law, line_law}
use Rattle.slot_array.proofs.texts.law_slots_text.Goals as goal

pub returns-clause-read : goal.returns-clause-read
returns-clause-read c = read_law

pub returns-clause-array : goal.returns-clause-array
returns-clause-array c = array_law

pub returns-clause-fault : goal.returns-clause-fault
returns-clause-fault c = fault_law

pub returns-clause-numbered : goal.returns-clause-numbered
returns-clause-numbered c = numbered_law

pub returns-clause-line : goal.returns-clause-line
returns-clause-line c = line_law

pub returns-clause-printed : goal.returns-clause-printed
returns-clause-printed c = λ f c a F A. printed_is_read f F c a A
