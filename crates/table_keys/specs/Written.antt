-- The document that a table is written as.
use Rattle.std.specs.Prelude.{ℕ, pos, List, [], ◌∷◌, map, Option, Some, None}
use Rattle.std.specs.Cmp.Lexicographic.{slice_cmp}
use Rattle.std.specs.Ordering.{nat_cmp, match_ordering}
use Rattle.line_text.specs.Kinds.{key_word}
use Rattle.line_text.specs.declared.kinds.TableKey.{TableKey}
use Rattle.line_text.specs.declared.kinds.TableKey.TheVariants.{M, P, Factor, Dual, Generators, Weight, Digits, Chain, Special, Inverse}
use Rattle.table_keys.specs.declared.documents.RowDocument.{RowDocument}
use Rattle.table_keys.specs.Documents.{Document, Moduli}
use Rattle.toml.specs.Data.{Data, integer, array, Members, no_members, member}
use Rattle.toml.specs.View.{items_of}

-- members in the order of their keys, with one more or another value at its key
abbrev pub with_member : List ℕ → Data → Members → Members
with_member k d no_members = member k d no_members
with_member k d (member l e ms) = match_ordering (slice_cmp nat_cmp k l) (member k d (member l e ms)) (member l d ms) (member l e (with_member k d ms))

unfoldable pub with_key : TableKey → Data → Members → Members
with_key key value members = with_member (key_word key) value members

abbrev pub number_data : ℕ → Data
number_data n = integer (pos n)

unfoldable pub numbers_data : List ℕ → Data
numbers_data numbers = array (items_of (map number_data numbers))

unfoldable pub rows_data : List (List ℕ) → Data
rows_data rows = array (items_of (map numbers_data rows))

abbrev pub pair_words : ℕ × ℕ → List ℕ
pair_words pair = pair.0 ∷ pair.1 ∷ []

abbrev pub row_words : RowDocument → List ℕ
row_words row = row.q ∷ row.zeta ∷ row.psi ∷ row.plain_inverse ∷ []

-- five values at the first five keys
unfoldable pub plain_members : Data → Data → Data → Data → Data → Members
plain_members m p factor dual generators =
    with_key Generators generators (with_key Dual dual (with_key Factor factor (with_key P p (with_key M m no_members))))

-- five more at the last five keys
unfoldable pub moduli_members : Data → Data → Data → Data → Data → Members → Members
moduli_members weight digits chain special inverse plain =
    with_key Inverse inverse (with_key Special special (with_key Chain chain (with_key Digits digits (with_key Weight weight plain))))

unfoldable pub plain_of : Document → Members
plain_of table =
    plain_members (number_data table.m) (number_data table.p) (numbers_data table.factor) (rows_data table.dual) (rows_data (map pair_words table.generators))

unfoldable pub with_moduli : Moduli → Members → Members
with_moduli moduli plain =
    moduli_members (number_data moduli.weight) (numbers_data moduli.digits) (rows_data (map row_words moduli.chain)) (rows_data (map row_words moduli.special))
    (rows_data moduli.inverse) plain

abbrev pub with_option : Option Moduli → Members → Members
with_option None plain = plain
with_option (Some moduli) plain = with_moduli moduli plain

-- the keys of a table with their values
unfoldable pub written : Document → Members
written table = with_option table.moduli (plain_of table)
