-- The files that a shelf tells, as a list in the order in which they were written.
use Rattle.std.specs.Prelude.{◌≡◌, ◌≢◌, ◌↔◌, ℕ, Bool, ◌&&◌, IsTrue, List, [], ◌∷◌, ◌++◌, Option, Some, None, map, nat_eq, bytes_eq, AllPairs, Contains, if◌then◌else◌}
use Rattle.std.specs.declared.vec.Vec.{Vec}
use Rattle.std.specs.declared.alloc.Global.{Global}
use Rattle.line_text.specs.declared.kinds.FileKind.{FileKind}
use Rattle.line_text.specs.declared.kinds.FileKind.TheVariants.{Table, Template, Secret, Public, Eval, Cipher, Slots, Prog, Seed, Script}
use Rattle.line_text.specs.declared.kinds.FileName.{FileName}

-- a file: its name, and the bytes held under it
pub record File : Type 0 where
  pub name : FileName
  pub bytes : List ℕ

-- the place of a kind among the kinds
abbrev pub kind_number : FileKind → ℕ
kind_number Table = 0
kind_number Template = 1
kind_number Secret = 2
kind_number Public = 3
kind_number Eval = 4
kind_number Cipher = 5
kind_number Slots = 6
kind_number Prog = 7
kind_number Seed = 8
kind_number Script = 9

-- whether two file names are equal
abbrev pub same_file : FileName → FileName → Bool
same_file a b = nat_eq (kind_number a.kind) (kind_number b.kind) && bytes_eq a.name b.name

-- the bytes held under a name, if there are any
abbrev pub bytes_of : FileName → List File → Option (List ℕ)
bytes_of name [] = None
bytes_of name (file ∷ files) = if same_file file.name name then Some file.bytes else bytes_of name files

-- no two files have the same name
abbrev pub AreDistinct : List File → Type 0
AreDistinct files = AllPairs (λ file later. file.name ≢ later.name) files

-- a file in memory, a pair of a name and bytes
abbrev pub file_of : FileName × Vec ℕ Global → File
file_of pair = record { name = pair.0; bytes = pair.1.items }

-- the files of a list in memory
abbrev pub files_of : List (FileName × Vec ℕ Global) → List File
files_of pairs = map file_of pairs

-- the test of two names passes exactly where they are equal
abbrev pub TestsNames : Type 0
TestsNames = (a b : FileName) → IsTrue (same_file a b) ↔ (a ≡ b)

-- among files of distinct names, what is held under a name is what the one file of that name has
abbrev pub FindsTheFile : Type 0
FindsTheFile =
    (files : List File) → AreDistinct files → (name : FileName) (bytes : List ℕ)
    → (bytes_of name files ≡ Some bytes) ↔ Contains files (record { name = name; bytes = bytes })

-- a file of a new name at the end is held under its name, and all else is held as before
abbrev pub AddsTheFile : Type 0
AddsTheFile =
    (files : List File) (file : File) → bytes_of file.name files ≡ None → (name : FileName)
    → bytes_of name (files ++ file ∷ []) ≡ (if same_file file.name name then Some file.bytes else bytes_of name files)
