-- The file of a secret: a byte for each of its entries.
use Rattle.std.specs.Prelude.{ℕ, zero, suc, ◌-◌, ◌==◌, ◌&&◌, nat_le, List, [], ◌∷◌, ◌++◌, map, slice_index, Option, Some, None, option_and_then, Result, Ok, ℤ, pos, negsuc, unsigned_abs, if◌then◌else◌}
use Rattle.line_text.specs.declared.kinds.FileKind.TheVariants as kinds
use Rattle.cyclotomic.specs.Cyclotomic.{degree}
use Rattle.residue_rows.specs.Kept.{RingSetting}
use Rattle.he_files.specs.declared.headers.Header.{Header}
use Rattle.he_files.specs.Form.{◌>>=◌, Form, field, ended}
use Rattle.he_files.specs.Header.{header_bytes}

-- 0 for 0, 1 for 1, 255 for -1
abbrev pub entry_byte : ℤ → ℕ
entry_byte (pos zero) = 0
entry_byte (pos (suc n)) = 1
entry_byte (negsuc n) = 255

-- the entry of a byte
abbrev pub entry_of : ℕ → Option ℤ
entry_of b = if b == 0 then Some (pos 0) else if b == 1 then Some (pos 1) else if b == 255 then Some (negsuc 0) else None

-- what an entry takes of the weight
abbrev pub taken : ℤ → ℕ
taken x = if unsigned_abs x == 0 then 0 else 1

-- an entry is allowed where this weight is not passed by it, and the entries that are left after it can still reach it
unfoldable pub allowed_entry : ℕ → ℕ → List ℕ → Option ℤ
allowed_entry weight left front =
    option_and_then (λ x. if nat_le (taken x) weight && nat_le (weight - taken x) left then Some x else None) (entry_of (slice_index front 0))

abbrev pub entry : ℕ → ℕ → Form ℤ
entry weight left = field 1 (λ x. entry_byte x ∷ []) (allowed_entry weight left)

-- so many entries, of which as many as the weight says are not 0
unfoldable pub entries_at : ℕ → ℕ → List ℕ → ℕ → Result (List ℤ × ℕ) ℕ
entries_at zero weight bytes at = Ok ([], at)
entries_at (suc left) weight bytes at = do
  x ← (entry weight left).read bytes at
  xs ← entries_at left (weight - taken x.0) bytes x.1
  Ok (x.0 ∷ xs.0, xs.1)

abbrev pub entries : ℕ → ℕ → Form (List ℤ)
entries n weight = record { spelled = map entry_byte; read = entries_at n weight }

-- the file of a secret
unfoldable pub secret_bytes : Header → List ℤ → List ℕ
secret_bytes header s = header_bytes kinds.Secret header ++ map entry_byte s

-- the secret behind the header, whose length is given; or the offset of the first field that is cut short or not allowed, or of
-- the first byte too many
unfoldable pub secret_of : RingSetting → List ℕ → ℕ → Result (List ℤ) ℕ
secret_of t bytes from = do
  s ← (entries (degree t.moduli.m) t.weight).read bytes from
  ended bytes s.0 s.1
