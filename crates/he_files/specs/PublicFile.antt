-- The file of a public key: its polynomials b and a, over the chain.
use Rattle.std.specs.Prelude.{ℕ, List, ◌++◌, length, Result}
use Rattle.line_text.specs.declared.kinds.FileKind.TheVariants as kinds
use Rattle.residue_rows.specs.Kept.{RingSetting}
use Rattle.scheme_laws.specs.Keys.{PublicKey}
use Rattle.he_files.specs.declared.headers.Header.{Header}
use Rattle.he_files.specs.Form.{◌>>=◌, Form, ended}
use Rattle.he_files.specs.Header.{header_bytes}
use Rattle.he_files.specs.Polynomial.{polynomial}

-- a polynomial over the whole chain
abbrev pub over_chain : RingSetting → Form (List (List ℕ))
over_chain t = polynomial t (length t.moduli.chain)

-- the file of a public key
unfoldable pub public_bytes : RingSetting → Header → PublicKey → List ℕ
public_bytes t header key = header_bytes kinds.Public header ++ (over_chain t).spelled key.b ++ (over_chain t).spelled key.a

-- the public key behind the header, whose length is given; or the offset of the first field that is cut short or not allowed,
-- or of the first byte too many
unfoldable pub public_of : RingSetting → List ℕ → ℕ → Result PublicKey ℕ
public_of t bytes from = do
  b ← (over_chain t).read bytes from
  a ← (over_chain t).read bytes b.1
  ended bytes (record { b = b.0; a = a.0 }) a.1
