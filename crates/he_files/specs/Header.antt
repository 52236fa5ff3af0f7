-- The header of a file: `HBGV`, the kind of the file, the format, and the names of the table and of the key.
use Rattle.std.specs.Prelude.{ℕ, ◌&&◌, nat_le, List, [], ◌∷◌, ◌++◌, length, Option, Some, None, option_to_list, Result, Ok, codes}
use Rattle.line_text.specs.declared.kinds.FileKind.{FileKind}
use Rattle.line_text.specs.declared.kinds.FileKind.TheVariants.{Table, Template, Secret, Public, Eval, Cipher, Slots, Prog, Seed, Script}
use Rattle.line_text.specs.Names.{name_of}
use Rattle.he_files.specs.declared.headers.Header.{Header}
use Rattle.he_files.specs.Form.{◌>>=◌, Form, field, fixed, byte}

-- the byte of a kind; the kinds of texts have none
unfoldable pub kind_byte : FileKind → Option ℕ
kind_byte Secret = Some 1
kind_byte Public = Some 2
kind_byte Eval = Some 3
kind_byte Cipher = Some 4
kind_byte Table = None
kind_byte Template = None
kind_byte Slots = None
kind_byte Prog = None
kind_byte Seed = None
kind_byte Script = None

abbrev pub mark : Form (Unit {0})
mark = fixed 4 (codes "HBGV")

abbrev pub kind : FileKind → Form (Unit {0})
kind k = fixed 1 (option_to_list (kind_byte k))

abbrev pub format : Form (Unit {0})
format = fixed 1 (1 ∷ [])

abbrev pub name_length : Form ℕ
name_length = byte (λ n. nat_le 1 n && nat_le n 64)

-- so many bytes that are a name
abbrev pub name_bytes : ℕ → Form (List ℕ)
name_bytes n = field n (λ name. name) name_of

unfoldable pub name_at : List ℕ → ℕ → Result (List ℕ × ℕ) ℕ
name_at bytes at = do
  n ← name_length.read bytes at
  (name_bytes n.0).read bytes n.1

-- a name: its length, and its bytes
abbrev pub name : Form (List ℕ)
name = record {
  spelled = λ x. name_length.spelled (length x) ++ (name_bytes (length x)).spelled x;
  read = name_at;
}

-- the header of a file of a kind
unfoldable pub header_bytes : FileKind → Header → List ℕ
header_bytes k header = mark.spelled tt ++ (kind k).spelled tt ++ format.spelled tt ++ name.spelled header.table ++ name.spelled header.key

-- the header that a file begins with, and the offset after it; or the offset of its first field that is cut short or not allowed
unfoldable pub header_of : FileKind → List ℕ → Result (Header × ℕ) ℕ
header_of k bytes = do
  marked ← mark.read bytes 0
  of_kind ← (kind k).read bytes marked.1
  formatted ← format.read bytes of_kind.1
  table ← name.read bytes formatted.1
  key ← name.read bytes table.1
  Ok (record { table = table.0; key = key.0 }, key.1)
