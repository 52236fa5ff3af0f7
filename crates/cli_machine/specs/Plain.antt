-- What `clear` prints, in the words of tables, programs and arrays alone.
use Rattle.std.specs.Prelude.{◌≡◌, ℕ, List, [], ◌∷◌, ◌++◌, length, Some, Ok}
use Rattle.line_text.specs.declared.kinds.FileKind.TheVariants.{Table, Slots, Prog}
use Rattle.shelf_core.specs.Files.{File, bytes_of}
use Rattle.slot_array.specs.Arrays.{Array}
use Rattle.slot_array.specs.SlotsText.{slots_of, slots_text}
use Rattle.slot_factor.specs.Packing.{Packing}
use Rattle.slot_program.specs.declared.kinds.Step.{Step}
use Rattle.slot_program.specs.Program.{input_count, meaning}
use Rattle.slot_program.specs.Text.{program_of}
use Rattle.table_file.specs.Accepted.{table_of}
use Rattle.table_file.specs.Setting.{Setting}
use Rattle.cli_machine.specs.declared.cause.Status.{Status}
use Rattle.cli_machine.specs.declared.cause.Status.TheVariants.{Done}
use Rattle.cli_machine.specs.declared.command.Command.TheVariants.{Clear}
use Rattle.cli_machine.specs.Commands.{command_of}
use Rattle.cli_machine.specs.Machine.{file_of}

-- the shelf holds an accepted table under this name
pub record HoldsTable (name : List ℕ) (setting : Setting) (files : List File) : Type 0 where
  pub text : List ℕ
  pub held : bytes_of (file_of Table name) files ≡ Some text
  pub read : table_of text ≡ Ok setting

-- the shelf holds a program of these steps under this name
pub record HoldsProgram (packing : Packing) (name : List ℕ) (steps : List Step) (files : List File) : Type 0 where
  pub text : List ℕ
  pub held : bytes_of (file_of Prog name) files ≡ Some text
  pub read : program_of packing.field packing.cube text ≡ Ok steps

-- the shelf holds an array under this name
pub record HoldsArray (packing : Packing) (name : List ℕ) (a : Array) (files : List File) : Type 0 where
  pub text : List ℕ
  pub held : bytes_of (file_of Slots name) files ≡ Some text
  pub read : slots_of packing.field packing.cube text ≡ Ok a

-- the shelf holds these arrays under these names, in order
abbrev pub HoldsArrays : Packing → List (List ℕ) → List Array → List File → Type 0
HoldsArrays packing [] [] files = Unit {0}
HoldsArrays packing [] (a ∷ arrays) files = ⊥
HoldsArrays packing (name ∷ names) [] files = ⊥
HoldsArrays packing (name ∷ names) (a ∷ arrays) files = HoldsArray packing name a files × HoldsArrays packing names arrays files

-- what is printed of a table, a program and arrays
pub record PrintsMeaning (table program : List ℕ) (names : List (List ℕ)) (files : List File) (old new : List ℕ) : Type 0 where
  pub setting : Setting
  pub steps : List Step
  pub inputs : List Array
  pub holds_table : HoldsTable table setting files
  pub holds_program : HoldsProgram setting.packing program steps files
  pub holds_arrays : HoldsArrays setting.packing names inputs files
  pub as_many : length names ≡ input_count steps
  pub printed : new ≡ old ++ slots_text (meaning setting.packing.field setting.packing.cube steps inputs)

-- A `clear` that is done has printed the meaning of the program on the arrays of its inputs.
abbrev pub ClearPrints : List (List ℕ) → List File → Status → List ℕ → List ℕ → Type 0
ClearPrints words files end old new =
    (table program : List ℕ) (names : List (List ℕ)) → command_of words ≡ Some (Clear table program names) → end ≡ Done
    → PrintsMeaning table program names files old new
