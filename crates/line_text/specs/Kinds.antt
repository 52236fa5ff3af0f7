use Rattle.std.specs.Prelude.{◌≡◌, ℕ, List, ◌++◌, codes}
use Rattle.line_text.specs.declared.kinds.FileKind.{FileKind}
use Rattle.line_text.specs.declared.kinds.FileKind.TheVariants.{Table, Template, Secret, Public, Eval, Cipher, Slots, Prog, Seed, Script}
use Rattle.line_text.specs.declared.kinds.FileName.{FileName}
use Rattle.line_text.specs.declared.kinds.TableKey.{TableKey}
use Rattle.line_text.specs.declared.kinds.TableKey.TheVariants.{M, P, Factor, Dual, Generators, Weight, Digits, Chain, Special, Inverse, Text, Other}

-- what the names of the files of a kind end in
unfoldable pub extension_of : FileKind → List ℕ
extension_of Table = codes ".table"
extension_of Template = codes ".tmpl"
extension_of Secret = codes ".sk"
extension_of Public = codes ".pk"
extension_of Eval = codes ".ek"
extension_of Cipher = codes ".ct"
extension_of Slots = codes ".slots"
extension_of Prog = codes ".prog"
extension_of Seed = codes ".seed"
extension_of Script = codes ".script"

-- the whole name of a file, as `k.sk`
unfoldable pub file_text : FileName → List ℕ
file_text file = file.name ++ extension_of file.kind

-- two file names with equal texts are equal
abbrev pub FileTextIsInjective : Type 0
FileTextIsInjective = (file other : FileName) → file_text file ≡ file_text other → file ≡ other

-- the printed word of a key
unfoldable pub key_word : TableKey → List ℕ
key_word M = codes "m"
key_word P = codes "p"
key_word Factor = codes "factor"
key_word Dual = codes "dual"
key_word Generators = codes "generators"
key_word Weight = codes "weight"
key_word Digits = codes "digits"
key_word Chain = codes "chain"
key_word Special = codes "special"
key_word Inverse = codes "inverse"
key_word Text = codes "text"
key_word Other = codes "other"
