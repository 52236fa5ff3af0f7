-- What a line wants left behind, and which effects leave it.
use Rattle.std.specs.Prelude.{◌≡◌, ℕ, List, [], ◌∷◌, ◌++◌, Ok}
use Rattle.line_text.specs.declared.kinds.FileName.{FileName}
use Rattle.shelf_core.specs.Files.{File}
use Rattle.table_keys.specs.Documents.{Document, document_of}
use Rattle.cli_machine.specs.declared.effect.Effect.{Effect}
use Rattle.cli_machine.specs.declared.effect.Effect.TheVariants as code

-- these bytes on the sink, a file of these bytes, or a file of any text that is read as this table
pub data Wanted : Type 0 where
  Prints : (piece : List ℕ) → Wanted
  Saves : (file : FileName) (bytes : List ℕ) → Wanted
  SavesTable : (file : FileName) (table : Document) → Wanted

-- whether an effect leaves what is wanted
abbrev pub Allows : Wanted → Effect → Type 0
Allows (Prints piece) (code.Prints text) = text ≡ piece
Allows (Prints piece) (code.Saves name text) = ⊥
Allows (Saves file bytes) (code.Prints text) = ⊥
Allows (Saves file bytes) (code.Saves name text) = (name ≡ file) × (text ≡ bytes)
Allows (SavesTable file table) (code.Prints text) = ⊥
Allows (SavesTable file table) (code.Saves name text) = (name ≡ file) × (document_of text ≡ Ok table)

-- what an effect leaves
abbrev pub left_by : Effect → Wanted
left_by (code.Prints text) = Prints text
left_by (code.Saves file text) = Saves file text

-- a file of this name was added, with a text that is read as this table
pub record AddsTable (file : FileName) (table : Document) (old new : List File) : Type 0 where
  pub text : List ℕ
  pub read : document_of text ≡ Ok table
  pub added : new ≡ old ++ record { name = file; bytes = text } ∷ []
