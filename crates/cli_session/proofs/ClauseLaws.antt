-- What follows of causes, effects and printed bytes.
use Rattle.std.proofs.Common.{◌≡◌, ℕ, ◌-◌, false, List, ◌++◌, length, take, Result, Ok, refl, arith}
use Rattle.std.proofs.lemmas.List.{take_all, take_at}
use Rattle.shelf_core.specs.Outcomes.{PutsFront}
use Rattle.slot_array.specs.Arrays.{Array}
use Rattle.cli_machine.specs.declared.cause.Cause.{Cause}
use Rattle.cli_machine.specs.declared.cause.Cause.TheVariants.{Words, NoFile, NameTaken, BadTable, BadSlots, BadProgram, BadSeed, BadTemplate, BadKey, BadCipher, NoRoot, Arity, WrongKey, TooNoisy, NoChain, ShelfFault, SinkFault, Memory}
use Rattle.cli_machine.specs.Clauses.{is_sink_fault, GoesOn, IsOfReading, IsOneFault}
use Rattle.cli_machine.specs.Machine.{◌>>=◌}

-- a cause of reading is no fault of the sink
pub cause_facts : (cause : Cause) → IsOfReading cause → (is_sink_fault cause ≡ false) × IsOneFault cause
cause_facts Words is = (refl, tt)
cause_facts (NoFile file) is = (refl, tt)
cause_facts (NameTaken file) is = (refl, tt)
cause_facts (BadTable fault) is = (refl, is)
cause_facts (BadSlots line) is = (refl, tt)
cause_facts (BadProgram line) is = (refl, tt)
cause_facts BadSeed is = (refl, tt)
cause_facts (BadTemplate key) is = (refl, tt)
cause_facts (BadKey file place) is = (refl, tt)
cause_facts (BadCipher file place) is = (refl, tt)
cause_facts (NoRoot i) is = (refl, tt)
cause_facts (Arity given named) is = (refl, tt)
cause_facts (WrongKey want got) is = (refl, tt)
cause_facts (TooNoisy line bound limit) is = (refl, tt)
cause_facts (NoChain file) is = (refl, tt)
cause_facts (ShelfFault faults) is = (refl, is)
cause_facts (SinkFault faults) is = absurd is
cause_facts Memory is = (refl, tt)

-- bytes go on where more are added, or none
pub goes_on : (old new piece : List ℕ) → new ≡ old ++ piece → GoesOn old new
goes_on old new piece added = rw added (take_at old piece (length old) refl)

pub goes_on_front : (old new piece : List ℕ) → PutsFront piece old new → GoesOn old new
goes_on_front old new piece added = goes_on old new (take (length new - length old) piece) added

pub stays : (old new : List ℕ) → new ≡ old → GoesOn old new
stays old new same = rw same (take_all (length old) old (omega arith))

-- these arrays, and then those that are found
abbrev pub after : List Array → Result (List Array) Cause → Result (List Array) Cause
after front found = found >>= λ rest. Ok (front ++ rest)
