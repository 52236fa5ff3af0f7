-- How values are written as bytes, and how they are read from an offset of a file on.
use Rattle.std.specs.Prelude.{ℕ, zero, suc, ◌+◌, ◌==◌, nat_lt, Bool, List, [], ◌∷◌, ◌++◌, length, take, drop, slice_index, Option, Some, None, Result, Ok, Err, if◌then◌else◌}
use Rattle.std.specs.List.{flat_map}
use Rattle.std.specs.Int.{Width, byte_len, to_le_bytes, from_le_bytes}
use Rattle.std.specs.Str.{bytes_eq}

-- the first fault ends the reading
infixl 10 ◌>>=◌
abbrev pub ◌>>=◌ : {A B : Type 0} → Result A ℕ → (A → Result B ℕ) → Result B ℕ
(Ok x) >>= f = f x
(Err place) >>= f = Err place

-- the bytes that spell a value, and what stands at an offset of a file: the value and the offset after it, or the offset of the
-- first field that is cut short or not allowed
pub record Form (A : Type 0) : Type 0 where
  pub spelled : A → List ℕ
  pub read : List ℕ → ℕ → Result (A × ℕ) ℕ

-- the bytes of a field, unless it is cut short
unfoldable pub bytes_at : ℕ → List ℕ → ℕ → Result (List ℕ) ℕ
bytes_at width bytes at = if nat_lt (length bytes) (at + width) then Err at else Ok (take width (drop at bytes))

-- a value where there is one, and else the offset of the field
abbrev pub or_at : {A : Type 0} → ℕ → Option A → Result A ℕ
or_at at (Some x) = Ok x
or_at at None = Err at

unfoldable pub field_at : {A : Type 0} → ℕ → (List ℕ → Option A) → List ℕ → ℕ → Result (A × ℕ) ℕ
field_at width value bytes at = do
  front ← bytes_at width bytes at
  x ← or_at at (value front)
  Ok (x, at + width)

-- a field of so many bytes: its spelling, and the value of the bytes that are allowed
abbrev pub field : {A : Type 0} → ℕ → (A → List ℕ) → (List ℕ → Option A) → Form A
field width spelled value = record { spelled = spelled; read = field_at width value }

-- so many bytes, of which one text is allowed
unfoldable pub only : List ℕ → List ℕ → Option (Unit {0})
only text front = if bytes_eq front text then Some tt else None

abbrev pub fixed : ℕ → List ℕ → Form (Unit {0})
fixed width text = field width (λ _. text) (only text)

-- a byte that passes a test
unfoldable pub allowed_byte : (ℕ → Bool) → List ℕ → Option ℕ
allowed_byte test front = let n = slice_index front 0 in if test n then Some n else None

abbrev pub byte : (ℕ → Bool) → Form ℕ
byte test = field 1 (λ n. n ∷ []) (allowed_byte test)

-- the bytes of a number, the low one first
unfoldable pub number_bytes : Width → ℕ → List ℕ
number_bytes w n = to_le_bytes w n

-- a number that passes a test
unfoldable pub allowed_number : Width → (ℕ → Bool) → List ℕ → Option ℕ
allowed_number w test front = let n = from_le_bytes w front in if test n then Some n else None

abbrev pub number : Width → (ℕ → Bool) → Form ℕ
number w test = field (byte_len w) (number_bytes w) (allowed_number w test)

-- so many values, one after another
unfoldable pub several_at : {A : Type 0} → Form A → ℕ → List ℕ → ℕ → Result (List A × ℕ) ℕ
several_at form zero bytes at = Ok ([], at)
several_at form (suc n) bytes at = do
  x ← form.read bytes at
  xs ← several_at form n bytes x.1
  Ok (x.0 ∷ xs.0, xs.1)

abbrev pub several : {A : Type 0} → ℕ → Form A → Form (List A)
several n form = record { spelled = flat_map form.spelled; read = several_at form n }

-- a value for each element of a list, one after another
unfoldable pub each_spelled : {X A : Type 0} → (X → Form A) → List X → List A → List ℕ
each_spelled form [] values = []
each_spelled form (x ∷ xs) [] = []
each_spelled form (x ∷ xs) (v ∷ values) = (form x).spelled v ++ each_spelled form xs values

unfoldable pub each_at : {X A : Type 0} → (X → Form A) → List X → List ℕ → ℕ → Result (List A × ℕ) ℕ
each_at form [] bytes at = Ok ([], at)
each_at form (x ∷ xs) bytes at = do
  v ← (form x).read bytes at
  values ← each_at form xs bytes v.1
  Ok (v.0 ∷ values.0, values.1)

abbrev pub each : {X A : Type 0} → (X → Form A) → List X → Form (List A)
each form xs = record { spelled = each_spelled form xs; read = each_at form xs }

-- values that are written as others
abbrev pub written_as : {A B : Type 0} → (B → A) → (A → B) → Form A → Form B
written_as back forth form = record {
  spelled = λ y. form.spelled (back y);
  read = λ bytes at. do
    x ← form.read bytes at
    Ok (forth x.0, x.1);
}

-- no byte follows
abbrev pub ended : {A : Type 0} → List ℕ → A → ℕ → Result A ℕ
ended bytes x at = if length bytes == at then Ok x else Err at
