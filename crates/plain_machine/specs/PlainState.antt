-- The plain machine: its names of keys hold pairs of names, and its names of ciphertexts hold such a pair and an array of field
-- elements. Its texts are those of the shelf. It has no ring, modulus, draw, level, noise or key material.
use Rattle.std.specs.Prelude.{ℕ, List, Option, Some, None, option_map, option_and_then, Result, Ok, Err, bytes_eq, if◌then◌else◌}
use Rattle.std.specs.Result.{result_ok}
use Rattle.shelf_core.specs.Files.{File}
use Rattle.slot_array.specs.Arrays.{Array}
use Rattle.he_files.specs.declared.headers.Header.{Header}
use Rattle.cli_machine.specs.declared.cause.Cause.{Cause}
use Rattle.cli_machine.specs.declared.command.Command.{Command}
use Rattle.cli_machine.specs.declared.command.Command.TheVariants.{Clear, Summarise, MakeTable, KeyGen, PubKey, Encrypt, Decrypt, Noise}
use Rattle.cli_machine.specs.Commands.{command_of}
use Rattle.cli_machine.specs.Machine.{◌>>=◌, array_on, table_on}

-- what a name of a ciphertext holds: the names of its table and key, and the array
pub record Sealed : Type 0 where
  pub header : Header
  pub array : Array

-- what the names of secrets, of public keys and of ciphertexts hold
pub record PlainState : Type 0 where
  pub secrets : List ℕ → Option Header
  pub publics : List ℕ → Option Header
  pub ciphers : List ℕ → Option Sealed

-- no name holds anything
abbrev pub nothing : PlainState
nothing = record { secrets = λ name. None; publics = λ name. None; ciphers = λ name. None }

-- the names with one set anew
abbrev pub with_name : {A : Type 0} → List ℕ → Option A → (List ℕ → Option A) → List ℕ → Option A
with_name name value held other = if bytes_eq name other then value else held other

-- the array of a text of the shelf, under the table of a pair of names
unfoldable pub input_of : Header → List ℕ → List File → Option Array
input_of header input files = result_ok (table_on header.table files >>= λ setting. array_on setting.packing input files)

-- what an encryption of an input under a public key holds
unfoldable pub sealed_by : PlainState → List ℕ → List ℕ → List File → Option Sealed
sealed_by state key input files =
    option_and_then (λ header. option_map (λ x. record { header = header; array = x }) (input_of header input files)) (state.publics key)

-- what a command that is done makes of the state
abbrev pub after_command : Command → PlainState → List File → PlainState
after_command (KeyGen table key seed stream) state files =
    record state { secrets = with_name key (Some (record { table = table; key = key })) state.secrets }
after_command (PubKey key seed stream) state files =
    record state { publics = with_name key (state.secrets key) state.publics }
after_command (Encrypt key cipher seed stream input) state files =
    record state { ciphers = with_name cipher (sealed_by state key input files) state.ciphers }
after_command (Clear table program names) state files = state
after_command (Summarise table) state files = state
after_command (MakeTable source table) state files = state
after_command (Decrypt key cipher) state files = state
after_command (Noise cipher) state files = state

-- what a line that is done makes of the state
abbrev pub after_words : Option Command → PlainState → List File → PlainState
after_words (Some command) state files = after_command command state files
after_words None state files = state

abbrev pub stepped : List (List ℕ) → PlainState → List File → PlainState
stepped words state files = after_words (command_of words) state files

-- what a line makes of the state, done or not: a stop leaves it
abbrev pub after_line : Result Unit Cause → List (List ℕ) → PlainState → List File → PlainState
after_line (Ok u) words state files = stepped words state files
after_line (Err cause) words state files = state
