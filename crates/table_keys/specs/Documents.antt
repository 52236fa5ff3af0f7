-- What a text is read as: a table, or the first fault in the order of its keys.
use Rattle.std.specs.Prelude.{ℕ, ◌+◌, ◌-◌, Bool, true, ◌&&◌, ◌==◌, List, [], ◌∷◌, length, bytes_eq, is_some, Option, Some, None, Result, Ok, Err, ok_or, if◌then◌else◌}
use Rattle.std.specs.List.{list_any}
use Rattle.std.specs.Str.{is_utf8}
use Rattle.line_text.specs.Kinds.{key_word}
use Rattle.line_text.specs.declared.kinds.TableKey.{TableKey}
use Rattle.line_text.specs.declared.kinds.TableKey.TheVariants.{M, P, Factor, Dual, Generators, Weight, Digits, Chain, Special, Inverse, Other}
use Rattle.table_keys.specs.declared.documents.RowDocument.{RowDocument}
use Rattle.table_keys.specs.declared.faults.DocumentFault.{DocumentFault}
use Rattle.table_keys.specs.declared.faults.DocumentFault.TheVariants.{Text}
use Rattle.table_keys.specs.Keys.{is_within, m_of, p_of, factor_of, dual_of, generators_of, weight_of, digits_of}
use Rattle.table_keys.specs.Values.{◌>>=◌, shaped, passed, each_of, value_at, rows_at}
use Rattle.toml.specs.Data.{Members, no_members, member}
use Rattle.toml.specs.Parse.{parse_document}

-- what a table says of its moduli
pub record Moduli : Type 0 where
  pub weight : ℕ
  pub digits : List ℕ
  pub chain : List RowDocument
  pub special : List RowDocument
  pub inverse : List (List ℕ)

-- what a table says
pub record Document : Type 0 where
  pub m : ℕ
  pub p : ℕ
  pub factor : List ℕ
  pub dual : List (List ℕ)
  pub generators : List (ℕ × ℕ)
  pub moduli : Option Moduli

-- a list [q, zeta, psi, plain inverse]
unfoldable pub modulus_of : List ℕ → Option RowDocument
modulus_of [] = None
modulus_of (q ∷ []) = None
modulus_of (q ∷ zeta ∷ []) = None
modulus_of (q ∷ zeta ∷ psi ∷ []) = None
modulus_of (q ∷ zeta ∷ psi ∷ inverse ∷ []) = Some (record { q = q; zeta = zeta; psi = psi; plain_inverse = inverse })
modulus_of (q ∷ zeta ∷ psi ∷ inverse ∷ n ∷ more) = None

-- 1 to most such lists
unfoldable pub moduli_at : TableKey → ℕ → Members → Result (List RowDocument) DocumentFault
moduli_at key most members = do
  rows ← rows_at key members
  moduli ← shaped key (each_of modulus_of rows)
  passed key (is_within 1 most (length moduli)) moduli

-- lists of n, n + 1, .. numbers in order
abbrev pub lengthen_from : ℕ → List (List ℕ) → Bool
lengthen_from n [] = true
lengthen_from n (row ∷ rows) = length row == n && lengthen_from (n + 1) rows

-- as many lists as there are moduli, list j of j numbers
unfoldable pub inverse_of : ℕ → Members → Result (List (List ℕ)) DocumentFault
inverse_of moduli members = do
  rows ← rows_at Inverse members
  passed Inverse (length rows == moduli && lengthen_from 0 rows) rows

-- whether one of the last five keys is there
unfoldable pub has_moduli : Members → Bool
has_moduli members = list_any (λ key. is_some (value_at key members)) (Weight ∷ Digits ∷ Chain ∷ Special ∷ Inverse ∷ [])

unfoldable pub all_moduli_of : Members → Result Moduli DocumentFault
all_moduli_of members = do
  weight ← weight_of members
  digits ← digits_of members
  chain ← moduli_at Chain 32 members
  special ← moduli_at Special 16 members
  inverse ← inverse_of (length chain + length special) members
  Ok (record { weight = weight; digits = digits; chain = chain; special = special; inverse = inverse })

-- the last five keys, where one of them is there
unfoldable pub moduli_of : Members → Result (Option Moduli) DocumentFault
moduli_of members = if has_moduli members then (all_moduli_of members >>= λ moduli. Ok (Some moduli)) else Ok None

-- the keys of a table in order
abbrev pub table_keys : List TableKey
table_keys = M ∷ P ∷ Factor ∷ Dual ∷ Generators ∷ Weight ∷ Digits ∷ Chain ∷ Special ∷ Inverse ∷ []

-- whether the word is one of the keys
unfoldable pub is_key : List TableKey → List ℕ → Bool
is_key keys word = list_any (λ key. bytes_eq word (key_word key)) keys

-- whether the members have no key but these
abbrev pub has_only : List TableKey → Members → Bool
has_only keys no_members = true
has_only keys (member word value members) = is_key keys word && has_only keys members

unfoldable pub table_of : Members → Result Document DocumentFault
table_of members = do
  m ← m_of members
  p ← p_of members
  factor ← factor_of p members
  dual ← dual_of p (length factor - 1) members
  generators ← generators_of m members
  moduli ← moduli_of members
  passed Other (has_only table_keys members) (record { m = m; p = p; factor = factor; dual = dual; generators = generators; moduli = moduli })

-- the document that a text writes
unfoldable pub members_of : List ℕ → Result Members DocumentFault
members_of text = if is_utf8 text then ok_or (parse_document text) Text else Err Text

-- the table that a text is read as, or its fault
unfoldable pub document_of : List ℕ → Result Document DocumentFault
document_of text = members_of text >>= table_of
