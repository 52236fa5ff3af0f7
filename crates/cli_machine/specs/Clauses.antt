-- What the outcome of a line says of the files and of the printed bytes, before and after it.
use Rattle.std.specs.Prelude.{◌≡◌, ℕ, Bool, true, false, ◌||◌, ◌==◌, List, [], ◌∷◌, ◌++◌, length, take, None, Result, Ok, Err, IsOkAnd}
use Rattle.shelf_core.specs.Files.{File, bytes_of}
use Rattle.shelf_core.specs.Outcomes.{PutsFront, Rises}
use Rattle.cli_machine.specs.declared.cause.Cause.{Cause}
use Rattle.cli_machine.specs.declared.cause.Cause.TheVariants.{BadTable, ShelfFault, SinkFault, Memory}
use Rattle.cli_machine.specs.declared.cause.Status.{Status}
use Rattle.cli_machine.specs.declared.cause.Status.TheVariants.{Done, Stopped}
use Rattle.table_file.specs.Faults.{is_memory as is_want}
use Rattle.table_keys.specs.Documents.{Document, document_of}
use Rattle.cli_machine.specs.declared.effect.Effect.{Effect}
use Rattle.cli_machine.specs.declared.effect.Effect.TheVariants as code
use Rattle.cli_machine.specs.Effects.{Wanted, Prints, Saves, SavesTable, Allows, AddsTable}

-- a fault of the shelf, of one failed answer
abbrev pub is_shelf_fault : Cause → Bool
is_shelf_fault (ShelfFault faults) = faults == 1
is_shelf_fault _ = false

-- a fault of the sink, of one failed answer
abbrev pub is_sink_fault : Cause → Bool
is_sink_fault (SinkFault faults) = faults == 1
is_sink_fault _ = false

-- want of memory
abbrev pub is_memory : Cause → Bool
is_memory Memory = true
is_memory _ = false

-- a cause that neither the words nor the files decide
abbrev pub is_excused : Cause → Bool
is_excused cause = is_memory cause || (is_shelf_fault cause || is_sink_fault cause)

-- whether it stopped, and by a cause that passes
abbrev pub faulted : {X : Type 0} → (Cause → Bool) → Result X Cause → Bool
faulted test (Ok x) = false
faulted test (Err cause) = test cause

-- a count of faults before and after: with a fault it rose, or it stood at its limit, and without one it is as it was
pub record Counts (fault : Bool) (before now : ℕ) : Type 0 where
  pub rose : fault ≡ true → Rises before now
  pub same : fault ≡ false → now ≡ before

-- what was returned, seen by view, is what the machine has, but for an excused cause
abbrev pub Gives : {X Y : Type 0} → (X → Y) → Result X Cause → Result Y Cause → Type 0
Gives view (Ok x) on = on ≡ Ok (view x)
Gives view (Err cause) on = is_excused cause ≡ false → on ≡ Err cause

-- what was returned leaves what the machine wants left, but for an excused cause
abbrev pub Meets : Result Effect Cause → Result Wanted Cause → Type 0
Meets (Ok effect) on = IsOkAnd on (λ wanted. Allows wanted effect)
Meets (Err cause) on = is_excused cause ≡ false → on ≡ Err cause

-- what was returned is a text of the table that a template is filled to, or its first modulus that has
-- no roots, as the machine has it, but for an excused cause
abbrev pub Fills : {X : Type 0} → (X → List ℕ) → Result (Result X ℕ) Cause → Result (Result Document ℕ) Cause → Type 0
Fills view (Ok (Ok x)) on = IsOkAnd on (λ filled. IsOkAnd filled (λ table. document_of (view x) ≡ Ok table))
Fills view (Ok (Err i)) on = on ≡ Ok (Err i)
Fills view (Err cause) on = is_excused cause ≡ false → on ≡ Err cause

-- the name of a file that is to be saved is free
abbrev pub IsFree : Effect → List File → Type 0
IsFree (code.Prints text) files = Unit {0}
IsFree (code.Saves file text) files = bytes_of file files ≡ None

-- each fault that stops a line is of one failed answer, and that of a table is no want of memory
abbrev pub IsOneFault : Cause → Type 0
IsOneFault (ShelfFault faults) = faults ≡ 1
IsOneFault (SinkFault faults) = faults ≡ 1
IsOneFault (BadTable fault) = is_want fault ≡ false
IsOneFault _ = Unit {0}

-- the same, before anything is printed
abbrev pub IsOfReading : Cause → Type 0
IsOfReading (ShelfFault faults) = faults ≡ 1
IsOfReading (SinkFault faults) = ⊥
IsOfReading (BadTable fault) = is_want fault ≡ false
IsOfReading _ = Unit {0}

-- how a session ends, without its line
abbrev pub outcome_of : Status → Result Unit Cause
outcome_of Done = Ok tt
outcome_of (Stopped line cause) = Err cause

-- a stop of the program's own words is at line 0, and its fault is of one failed answer
abbrev pub IsOwnStop : Status → Type 0
IsOwnStop Done = Unit {0}
IsOwnStop (Stopped line cause) = (line ≡ 0) × IsOneFault cause

-- the files before and after a line that is done
abbrev pub LeavesDone : Result Wanted Cause → List File → List File → Type 0
LeavesDone (Ok (Prints piece)) old new = new ≡ old
LeavesDone (Ok (Saves file bytes)) old new = new ≡ old ++ record { name = file; bytes = bytes } ∷ []
LeavesDone (Ok (SavesTable file table)) old new = AddsTable file table old new
LeavesDone (Err cause) old new = ⊥

-- the line prints
abbrev pub IsToPrint : Result Wanted Cause → Type 0
IsToPrint (Ok (Prints piece)) = Unit {0}
IsToPrint (Ok (Saves file bytes)) = ⊥
IsToPrint (Ok (SavesTable file table)) = ⊥
IsToPrint (Err cause) = ⊥

-- The files before and after a line. A stop leaves them, and its cause is the machine's or an excused
-- one, and a fault of the sink comes only where the line prints.
abbrev pub Leaves : Result Unit Cause → Result Wanted Cause → List File → List File → Type 0
Leaves (Ok u) on old new = LeavesDone on old new
Leaves (Err cause) on old new = (new ≡ old) × (is_excused cause ≡ false → on ≡ Err cause) × (is_sink_fault cause ≡ true → IsToPrint on)

-- the whole piece was printed, or nothing where a file is saved
abbrev pub PrintsAll : Result Wanted Cause → List ℕ → List ℕ → Type 0
PrintsAll (Ok (Prints piece)) old new = new ≡ old ++ piece
PrintsAll (Ok (Saves file bytes)) old new = new ≡ old
PrintsAll (Ok (SavesTable file table)) old new = new ≡ old
PrintsAll (Err cause) old new = ⊥

-- a front of the piece was printed
abbrev pub PrintsFront : Result Wanted Cause → List ℕ → List ℕ → Type 0
PrintsFront (Ok (Prints piece)) old new = PutsFront piece old new
PrintsFront (Ok (Saves file bytes)) old new = ⊥
PrintsFront (Ok (SavesTable file table)) old new = ⊥
PrintsFront (Err cause) old new = ⊥

-- the printed bytes before and after a line
abbrev pub Shows : Result Unit Cause → Result Wanted Cause → List ℕ → List ℕ → Type 0
Shows (Ok u) on old new = PrintsAll on old new
Shows (Err cause) on old new = (is_sink_fault cause ≡ false → new ≡ old) × (is_sink_fault cause ≡ true → PrintsFront on old new)

-- the old bytes are a front of the new ones
abbrev pub GoesOn : List ℕ → List ℕ → Type 0
GoesOn old new = take (length old) new ≡ old

-- The printed bytes before and after a line, whatever the shelf holds: they go on, and only a line that
-- is done, or a fault of the sink, adds any.
abbrev pub Adds : Result Unit Cause → List ℕ → List ℕ → Type 0
Adds (Ok u) old new = GoesOn old new
Adds (Err cause) old new = (is_sink_fault cause ≡ false → new ≡ old) × GoesOn old new
