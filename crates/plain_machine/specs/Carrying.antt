-- When the files of a shelf carry a state of the plain machine: each file of a key or a ciphertext is the spelling of what the state
-- has under its name.
use Rattle.std.specs.Prelude.{◌≡◌, ℕ, ◌<◌, List, [], ◌∷◌, Some, None, MatchOption, Result, ℤ}
use Rattle.line_text.specs.declared.kinds.FileKind.TheVariants as kinds
use Rattle.shelf_core.specs.Files.{File, bytes_of}
use Rattle.residue_rows.specs.Kept.{RingSetting}
use Rattle.scheme_laws.specs.Scheme.{SchemeSetting}
use Rattle.scheme_laws.specs.Keys.{PublicKey, IsSecret, IsPublicOf}
use Rattle.scheme_laws.specs.Ciphers.{Cipher, IsCipher, Stands, limit_at}
use Rattle.he_files.specs.declared.headers.Header.{Header}
use Rattle.he_files.specs.FileLaws.{AreNames, IsSpelledBound}
use Rattle.he_files.specs.Secret.{secret_bytes}
use Rattle.he_files.specs.PublicFile.{public_bytes}
use Rattle.he_files.specs.CipherFile.{cipher_bytes}
use Rattle.table_file.specs.Setting.{Setting, scheme_of}
use Rattle.cli_machine.specs.declared.cause.Cause.{Cause}
use Rattle.cli_machine.specs.Clauses.{Leaves}
use Rattle.cli_machine.specs.Machine.{file_of, line_on}
use Rattle.cli_machine.specs.Plain.{HoldsTable}
use Rattle.plain_machine.specs.PlainState.{Sealed, PlainState, after_line}

-- the shelf holds the accepted table that a pair names, and it is not plain
pub record HoldsScheme (header : Header) (files : List File) : Type 0 where
  pub setting : Setting
  pub ring : RingSetting
  pub holds : HoldsTable header.table setting files
  pub not_plain : setting.chain ≡ Some ring

abbrev pub scheme : {header : Header} {files : List File} → HoldsScheme header files → SchemeSetting
scheme table = scheme_of table.setting table.ring

-- the shelf holds the secret of a pair, under its key's name
pub record HoldsSecret (header : Header) (files : List File) : Type 0 where
  pub names : AreNames header
  pub table : HoldsScheme header files
  pub secret : List ℤ
  pub is_secret : IsSecret table.ring secret
  pub spelled : bytes_of (file_of kinds.Secret header.key) files ≡ Some (secret_bytes header secret)

-- a name of a secret is the key's name in its pair
pub record CarriesSecret (name : List ℕ) (header : Header) (files : List File) : Type 0 where
  pub own_name : header.key ≡ name
  pub secret : HoldsSecret header files

-- the shelf holds a public key under this name, of the secret of its pair
pub record CarriesPublic (name : List ℕ) (header : Header) (files : List File) : Type 0 where
  pub secret : HoldsSecret header files
  pub key : PublicKey
  pub of_secret : IsPublicOf secret.table.ring secret.secret key
  pub spelled : bytes_of (file_of kinds.Public name) files ≡ Some (public_bytes secret.table.ring header key)

-- the shelf holds a ciphertext under this name, which stands for the array under the secret of its pair, with its bound below the
-- limit of its level
pub record CarriesCipher (name : List ℕ) (sealed : Sealed) (files : List File) : Type 0 where
  pub secret : HoldsSecret sealed.header files
  pub cipher : Cipher
  pub is_cipher : IsCipher (scheme secret.table) cipher
  pub bound : IsSpelledBound cipher.bound
  pub stands : Stands (scheme secret.table) secret.secret cipher sealed.array
  pub below : cipher.bound < limit_at (scheme secret.table) cipher.level
  pub spelled : bytes_of (file_of kinds.Cipher name) files ≡ Some (cipher_bytes secret.table.ring sealed.header cipher)

-- the files carry the state: what it has under a name is held under this name, and what it has not is not
pub record Carries (state : PlainState) (files : List File) : Type 0 where
  pub secrets : (name : List ℕ) → MatchOption (state.secrets name) (bytes_of (file_of kinds.Secret name) files ≡ None) (λ header. CarriesSecret name header files)
  pub publics : (name : List ℕ) → MatchOption (state.publics name) (bytes_of (file_of kinds.Public name) files ≡ None) (λ header. CarriesPublic name header files)
  pub ciphers : (name : List ℕ) → MatchOption (state.ciphers name) (bytes_of (file_of kinds.Cipher name) files ≡ None) (λ sealed. CarriesCipher name sealed files)
  pub no_evaluation : (name : List ℕ) → bytes_of (file_of kinds.Eval name) files ≡ None

-- no key and no ciphertext is held
pub record HoldsNoKeys (files : List File) : Type 0 where
  pub secrets : (name : List ℕ) → bytes_of (file_of kinds.Secret name) files ≡ None
  pub publics : (name : List ℕ) → bytes_of (file_of kinds.Public name) files ≡ None
  pub ciphers : (name : List ℕ) → bytes_of (file_of kinds.Cipher name) files ≡ None
  pub evaluations : (name : List ℕ) → bytes_of (file_of kinds.Eval name) files ≡ None

-- a line that was run: its words, how it ended, and the files after it
pub record Past : Type 0 where
  pub words : List (List ℕ)
  pub outcome : Result Unit Cause
  pub files : List File

-- these lines, run in order, each to any end, lead from the files at the start to the files now
abbrev pub IsHistory : List Past → List File → List File → Type 0
IsHistory [] start now = now ≡ start
IsHistory (past ∷ later) start now =
    Leaves past.outcome (line_on past.words start) start past.files × IsHistory later past.files now

-- the state that the plain machine reaches by the lines that were done
abbrev pub reached : List Past → List File → PlainState → PlainState
reached [] start state = state
reached (past ∷ later) start state = reached later past.files (after_line past.outcome past.words state start)
