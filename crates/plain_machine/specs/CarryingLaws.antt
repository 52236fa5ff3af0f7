-- What is said of the plain machine: the files go on carrying its state, and what `decrypt` prints are its arrays.
use Rattle.std.specs.Prelude.{◌≡◌, ℕ, List, ◌++◌, Some, Result}
use Rattle.shelf_core.specs.Files.{File}
use Rattle.slot_array.specs.SlotsText.{slots_text}
use Rattle.cli_machine.specs.declared.cause.Cause.{Cause}
use Rattle.cli_machine.specs.declared.cause.Status.{Status}
use Rattle.cli_machine.specs.declared.cause.Status.TheVariants.{Done}
use Rattle.cli_machine.specs.declared.command.Command.TheVariants.{Decrypt}
use Rattle.cli_machine.specs.Clauses.{Leaves, Shows, outcome_of}
use Rattle.cli_machine.specs.Commands.{command_of}
use Rattle.cli_machine.specs.Machine.{line_on}
use Rattle.plain_machine.specs.PlainState.{Sealed, PlainState, nothing, after_line}
use Rattle.plain_machine.specs.Carrying.{Carries, HoldsNoKeys, Past, IsHistory, reached}

-- files without keys and ciphertexts carry the state that has nothing
abbrev pub EmptyLaw : Type 0
EmptyLaw = (files : List File) → HoldsNoKeys files → Carries nothing files

-- a line, however it ends, leaves files that carry the state that it makes of the one before
abbrev pub CarryingLaw : Type 0
CarryingLaw = (words : List (List ℕ)) (outcome : Result Unit Cause) (state : PlainState) (old new : List File) → Carries state old → Leaves outcome (line_on words old) old new → Carries (after_line outcome words state old) new

-- many lines do so, from files without keys and ciphertexts
abbrev pub HistoryLaw : Type 0
HistoryLaw = (history : List Past) (start now : List File) → HoldsNoKeys start → IsHistory history start now → Carries (reached history start nothing) now

-- the array of a ciphertext of the state was printed
pub record PrintsArray (state : PlainState) (cipher : List ℕ) (old new : List ℕ) : Type 0 where
  pub sealed : Sealed
  pub holds : state.ciphers cipher ≡ Some sealed
  pub printed : new ≡ old ++ slots_text sealed.array

-- a `decrypt` that is done has printed the array that the state has for its ciphertext
abbrev pub DecryptPrints : PlainState → List (List ℕ) → Status → List ℕ → List ℕ → Type 0
DecryptPrints state words end old new =
    (key cipher : List ℕ) → command_of words ≡ Some (Decrypt key cipher) → end ≡ Done → PrintsArray state cipher old new

abbrev pub DecryptsLaw : Type 0
DecryptsLaw = (words : List (List ℕ)) (end : Status) (state : PlainState) (files : List File) (old new : List ℕ) → Carries state files → Shows (outcome_of end) (line_on words files) old new → DecryptPrints state words end old new

-- ---- what a session says of each plain machine that its files carry
-- the files after a line carry the state that the line makes
abbrev pub CarriesOn : List (List ℕ) → Result Unit Cause → List File → List File → Type 0
CarriesOn words outcome old new = (state : PlainState) → Carries state old → Carries (after_line outcome words state old) new

-- a `decrypt` that is done has printed the array of its ciphertext
abbrev pub PrintsArrays : List (List ℕ) → Status → List File → List ℕ → List ℕ → Type 0
PrintsArrays words end files old new = (state : PlainState) → Carries state files → DecryptPrints state words end old new

-- From any files without keys and ciphertexts, by any lines that led from them to the files before this line: the files after it
-- carry the state that the plain machine reaches by it.
abbrev pub Reaches : List (List ℕ) → Result Unit Cause → List File → List File → Type 0
Reaches words outcome old new =
    (history : List Past) (start : List File) → HoldsNoKeys start → IsHistory history start old → Carries (after_line outcome words (reached history start nothing) old) new

-- By such lines again: a `decrypt` that is done has printed the array that this machine has for its ciphertext.
abbrev pub PrintsReached : List (List ℕ) → Status → List File → List ℕ → List ℕ → Type 0
PrintsReached words end files old new =
    (history : List Past) (start : List File) → HoldsNoKeys start → IsHistory history start files → DecryptPrints (reached history start nothing) words end old new
