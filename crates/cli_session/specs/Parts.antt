-- What contracts see of the parts of a line.
use Rattle.std.specs.Prelude.{ℕ, List, Some, Result, Ok}
use Rattle.line_text.specs.declared.kinds.FileKind.TheVariants.{Cipher}
use Rattle.shelf_core.specs.Files.{File}
use Rattle.slot_array.specs.Arrays.{Array}
use Rattle.scheme_laws.specs.Keys.{PublicKey}
use Rattle.scheme_laws.specs.Ciphers.{encryption_drawn}
use Rattle.he_files.specs.CipherFile.{cipher_bytes}
use Rattle.line_text.specs.declared.kinds.FileName.{FileName}
use Rattle.cipher_core.specs.declared.schemes.Scheme.{Scheme}
use Rattle.table_file.specs.Accepted.{accepted}
use Rattle.table_keys.specs.Documents.{Document}
use Rattle.cli_machine.specs.declared.cause.Cause.{Cause}
use Rattle.cli_machine.specs.declared.cause.Cause.TheVariants.{BadTable}
use Rattle.cli_machine.specs.Effects.{Wanted, Saves, SavesTable}
use Rattle.cli_machine.specs.Machine.{◌>>=◌, or_else, file_of, free, quiet, draws_of, scheme_in, Chained, Headed, Opened}
use Rattle.cli_session.specs.declared.found.Headed.{Headed as HeadedFile}
use Rattle.cli_session.specs.declared.found.Opened.{Opened as OpenedFile}

-- a text of the table is saved, where the table passes the checks of tables
unfoldable pub save_table_on : FileName → Document → Result Wanted Cause
save_table_on file table = do
  setting ← or_else (λ fault. BadTable fault) (accepted table)
  Ok (SavesTable file table)

-- the table of a scheme
abbrev pub chained_of : Scheme → Chained
chained_of s = record { setting = record { packing = s.slots.value; chain = Some s.tables.value }; ring = s.tables.value }

-- a file with its header
abbrev pub headed_of : HeadedFile → Headed
headed_of found = record { bytes = found.bytes.items; header = found.header; from = found.from }

-- what a file holds, its value seen by view
abbrev pub opened_of : {A V : Type 0} → (A → V) → OpenedFile A → Opened V
opened_of view o = record { header = o.header; table = chained_of o.scheme; value = view o.value }

-- the ciphertext of an array that a stream of a seed gives is saved under a name that is free, where it is quiet
abbrev pub save_cipher_on : Opened PublicKey → List ℕ → ℕ → Array → List ℕ → List File → Result Wanted Cause
save_cipher_on public bytes stream array cipher files = do
  unused ← free (file_of Cipher cipher) files
  below ← quiet public.table.ring
  Ok (Saves (file_of Cipher cipher) (cipher_bytes public.table.ring public.header (encryption_drawn (scheme_in public.table) public.value (draws_of bytes stream) array)))
