-- What a written table is read as.
use Rattle.std.proofs.Common.{◌≡◌, ℕ, ◌+◌, ◌-◌, ◌≤◌, true, false, List, [], ◌∷◌, max, length, map, Option, Some, None, Ok, refl, arith}
use Rattle.std.specs.List.{All}
use Rattle.std.specs.Str.{is_utf8}
use Rattle.std.proofs.lemmas.List.Sums.{get_or-le-sum_by}
use Rattle.line_text.specs.Kinds.{key_word}
use Rattle.line_text.specs.declared.kinds.TableKey.TheVariants.{M, P, Factor, Dual, Generators, Weight, Digits, Chain, Special, Inverse}
use Rattle.toml.specs.Data.{Data, Members, depth, items_depth, members_depth}
use Rattle.toml.specs.View.{items_of}
use Rattle.toml.specs.Parse.{parse_document}
use Rattle.table_keys.specs.Values.{value_at}
use Rattle.table_keys.specs.Documents.{Document, Moduli, all_moduli_of, document_of, has_moduli, has_only, is_key, members_of, moduli_of, table_keys, table_of}
use Rattle.table_keys.specs.Shapes.{AreDigits, IsDocument, IsModuli, IsSmall}
use Rattle.table_keys.specs.Written.{moduli_members, number_data, numbers_data, pair_words, plain_members, plain_of, row_words, rows_data, with_key, with_moduli, with_option, written}
use Rattle.table_keys.proofs.WriteLaws.{chain_count-data, digits_of-data, dual_of-data, factor_of-data, generators_of-data, inverse_of-data, moduli_at-data, number_within-data}

-- what stands at each key
module _ (m p f d g : Data) where
  plain-M : value_at M (plain_members m p f d g) ≡ Some m
  unfolding value_at key_word with_key plain_members
  plain-M = refl

  plain-P : value_at P (plain_members m p f d g) ≡ Some p
  unfolding value_at key_word with_key plain_members
  plain-P = refl

  plain-Factor : value_at Factor (plain_members m p f d g) ≡ Some f
  unfolding value_at key_word with_key plain_members
  plain-Factor = refl

  plain-Dual : value_at Dual (plain_members m p f d g) ≡ Some d
  unfolding value_at key_word with_key plain_members
  plain-Dual = refl

  plain-Generators : value_at Generators (plain_members m p f d g) ≡ Some g
  unfolding value_at key_word with_key plain_members
  plain-Generators = refl

  plain-moduli : has_moduli (plain_members m p f d g) ≡ false
  unfolding has_moduli value_at key_word with_key plain_members
  plain-moduli = refl

  plain-only : has_only table_keys (plain_members m p f d g) ≡ true
  unfolding is_key key_word with_key plain_members
  plain-only = refl

  module _ (w s c x i : Data) where
    full-M : value_at M (moduli_members w s c x i (plain_members m p f d g)) ≡ Some m
    unfolding value_at key_word with_key plain_members moduli_members
    full-M = refl

    full-P : value_at P (moduli_members w s c x i (plain_members m p f d g)) ≡ Some p
    unfolding value_at key_word with_key plain_members moduli_members
    full-P = refl

    full-Factor : value_at Factor (moduli_members w s c x i (plain_members m p f d g)) ≡ Some f
    unfolding value_at key_word with_key plain_members moduli_members
    full-Factor = refl

    full-Dual : value_at Dual (moduli_members w s c x i (plain_members m p f d g)) ≡ Some d
    unfolding value_at key_word with_key plain_members moduli_members
    full-Dual = refl

    full-Generators : value_at Generators (moduli_members w s c x i (plain_members m p f d g)) ≡ Some g
    unfolding value_at key_word with_key plain_members moduli_members
    full-Generators = refl

    full-Weight : value_at Weight (moduli_members w s c x i (plain_members m p f d g)) ≡ Some w
    unfolding value_at key_word with_key plain_members moduli_members
    full-Weight = refl

    full-Digits : value_at Digits (moduli_members w s c x i (plain_members m p f d g)) ≡ Some s
    unfolding value_at key_word with_key plain_members moduli_members
    full-Digits = refl

    full-Chain : value_at Chain (moduli_members w s c x i (plain_members m p f d g)) ≡ Some c
    unfolding value_at key_word with_key plain_members moduli_members
    full-Chain = refl

    full-Special : value_at Special (moduli_members w s c x i (plain_members m p f d g)) ≡ Some x
    unfolding value_at key_word with_key plain_members moduli_members
    full-Special = refl

    full-Inverse : value_at Inverse (moduli_members w s c x i (plain_members m p f d g)) ≡ Some i
    unfolding value_at key_word with_key plain_members moduli_members
    full-Inverse = refl

    full-moduli : has_moduli (moduli_members w s c x i (plain_members m p f d g)) ≡ true
    unfolding has_moduli value_at key_word with_key plain_members moduli_members
    full-moduli = refl

    full-only : has_only table_keys (moduli_members w s c x i (plain_members m p f d g)) ≡ true
    unfolding is_key key_word with_key plain_members moduli_members
    full-only = refl

-- a written table nests its lists no deeper than 2
numbers-flat : (ns : List ℕ) → items_depth (items_of (map number_data ns)) ≡ 0
numbers-flat [] = refl
numbers-flat (n ∷ ns) = rw (numbers-flat ns) refl

depth-numbers : (ns : List ℕ) → depth (numbers_data ns) ≡ 1
unfolding numbers_data
depth-numbers ns = rw (numbers-flat ns) refl

rows-flat : (rows : List (List ℕ)) → items_depth (items_of (map numbers_data rows)) ≤ 1
rows-flat [] = omega arith
rows-flat (row ∷ rows) = omega (arith, depth-numbers row, rows-flat rows)

depth-rows : (rows : List (List ℕ)) → depth (rows_data rows) ≤ 2
unfolding rows_data
depth-rows rows = omega (arith, rows-flat rows)

numbers-shallow : (ns : List ℕ) → depth (numbers_data ns) ≤ 2
numbers-shallow ns = omega (arith, depth-numbers ns)

both : (a b : ℕ) → a ≤ 2 → b ≤ 2 → max a b ≤ 2
both a b first second = omega arith

none : 0 ≤ 2
none = omega arith

depth-plain : (m p f d g : Data) → depth m ≤ 2 → depth p ≤ 2 → depth f ≤ 2 → depth d ≤ 2 → depth g ≤ 2 → members_depth (plain_members m p f d g) ≤ 2
unfolding key_word with_key plain_members
depth-plain m p f d g hm hp hf hd hg = both _ _ hd (both _ _ hf (both _ _ hg (both _ _ hm (both _ _ hp none))))

depth-full : (m p f d g w s c x i : Data) → depth m ≤ 2 → depth p ≤ 2 → depth f ≤ 2 → depth d ≤ 2 → depth g ≤ 2
    → depth w ≤ 2 → depth s ≤ 2 → depth c ≤ 2 → depth x ≤ 2 → depth i ≤ 2 → members_depth (moduli_members w s c x i (plain_members m p f d g)) ≤ 2
unfolding key_word with_key plain_members moduli_members
depth-full m p f d g w s c x i hm hp hf hd hg hw hs hc hx hi =
    both _ _ hc (both _ _ hs (both _ _ hd (both _ _ hf (both _ _ hg (both _ _ hi (both _ _ hm (both _ _ hp (both _ _ hx (both _ _ hw none)))))))))

-- a table whose first five keys stand in the members
record IsPlainIn (table : Document) (doc : Members) : Type 0 where
  m : value_at M doc ≡ Some (number_data table.m)
  p : value_at P doc ≡ Some (number_data table.p)
  factor : value_at Factor doc ≡ Some (numbers_data table.factor)
  dual : value_at Dual doc ≡ Some (rows_data table.dual)
  generators : value_at Generators doc ≡ Some (rows_data (map pair_words table.generators))

table_of-data : (table : Document) (doc : Members) → IsDocument table → IsPlainIn table doc → moduli_of doc ≡ Ok table.moduli → has_only table_keys doc ≡ true
    → table_of doc ≡ Ok table
unfolding table_of
table_of-data table doc is at moduli only =
    rw (
      number_within-data M 3 65536 table.m doc at.m is.m (omega arith),
      number_within-data P 2 131071 table.p doc at.p is.p (omega arith),
      factor_of-data table.p table.factor doc at.factor is.p.1 is.factor,
      dual_of-data table.p (length table.factor - 1) table.dual doc at.dual is.p.1 is.dual,
      generators_of-data table.m table.generators doc at.generators is.m.1 is.generators,
      moduli,
      only,
    )
    refl

-- a size is within the chain's length
sizes-small : (count : ℕ) (sizes : List ℕ) → count ≤ 32 → AreDigits count sizes → All IsSmall sizes
sizes-small count sizes few digits k d within = omega (arith, get_or-le-sum_by (λ x. x) sizes k d within, digits.total)

all_moduli_of-data : (moduli : Moduli) (doc : Members) → IsModuli moduli
    → value_at Weight doc ≡ Some (number_data moduli.weight)
    → value_at Digits doc ≡ Some (numbers_data moduli.digits)
    → value_at Chain doc ≡ Some (rows_data (map row_words moduli.chain))
    → value_at Special doc ≡ Some (rows_data (map row_words moduli.special))
    → value_at Inverse doc ≡ Some (rows_data moduli.inverse)
    → all_moduli_of doc ≡ Ok moduli
unfolding all_moduli_of
all_moduli_of-data moduli doc is weight digits chain special inverse =
    let count = chain_count-data moduli.chain row_words doc chain in
    rw (
      number_within-data Weight 1 65536 moduli.weight doc weight is.weight (omega arith),
      digits_of-data moduli.digits (length moduli.chain) doc digits count (sizes-small (length moduli.chain) moduli.digits is.chain.count.1 is.digits) is.digits,
      moduli_at-data Chain 32 moduli.chain doc chain is.chain,
      moduli_at-data Special 16 moduli.special doc special is.special,
      inverse_of-data (length moduli.chain + length moduli.special) moduli.inverse doc inverse is.inverse,
    )
    refl

moduli_of-none : (doc : Members) → has_moduli doc ≡ false → moduli_of doc ≡ Ok None
unfolding moduli_of
moduli_of-none doc none = rw none refl

moduli_of-some : (moduli : Moduli) (doc : Members) → has_moduli doc ≡ true → all_moduli_of doc ≡ Ok moduli → moduli_of doc ≡ Ok (Some moduli)
unfolding moduli_of
moduli_of-some moduli doc some is = rw (some, is) refl

table_of-plain : (table : Document) → IsDocument table → table.moduli ≡ None → table_of (plain_of table) ≡ Ok table
unfolding plain_of
table_of-plain table is none =
    table_of-data table (plain_of table) is (record { m = plain-M _ _ _ _ _; p = plain-P _ _ _ _ _; factor = plain-Factor _ _ _ _ _; dual = plain-Dual _ _ _ _ _; generators = plain-Generators _ _ _ _ _ })
    (rw none (moduli_of-none (plain_of table) (plain-moduli _ _ _ _ _))) (plain-only _ _ _ _ _)

table_of-full : (table : Document) (moduli : Moduli) → IsDocument table → IsModuli moduli → table.moduli ≡ Some moduli → table_of (with_moduli moduli (plain_of table)) ≡ Ok table
unfolding plain_of with_moduli
table_of-full table moduli is good some =
    let doc = with_moduli moduli (plain_of table) in
    let all = all_moduli_of-data moduli doc good (full-Weight _ _ _ _ _ _ _ _ _ _) (full-Digits _ _ _ _ _ _ _ _ _ _) (full-Chain _ _ _ _ _ _ _ _ _ _)
    (full-Special _ _ _ _ _ _ _ _ _ _) (full-Inverse _ _ _ _ _ _ _ _ _ _) in
    table_of-data table doc is
    (record {
      m = full-M _ _ _ _ _ _ _ _ _ _;
      p = full-P _ _ _ _ _ _ _ _ _ _;
      factor = full-Factor _ _ _ _ _ _ _ _ _ _;
      dual = full-Dual _ _ _ _ _ _ _ _ _ _;
      generators = full-Generators _ _ _ _ _ _ _ _ _ _;
    })
    (rw some (moduli_of-some moduli doc (full-moduli _ _ _ _ _ _ _ _ _ _) all)) (full-only _ _ _ _ _ _ _ _ _ _)

by_option : (table : Document) (moduli : Option Moduli) → IsDocument table → table.moduli ≡ moduli → table_of (with_option moduli (plain_of table)) ≡ Ok table
by_option table None is none = table_of-plain table is none
by_option table (Some moduli) is some =
    let good : IsModuli moduli = rw some at is.moduli in
    table_of-full table moduli is good some

pub table_of-written : (table : Document) → IsDocument table → table_of (written table) ≡ Ok table
unfolding written
table_of-written table is = by_option table table.moduli is refl

depth-plain_of : (table : Document) → members_depth (plain_of table) ≤ 2
unfolding plain_of
depth-plain_of table =
    depth-plain (number_data table.m) (number_data table.p) (numbers_data table.factor) (rows_data table.dual) (rows_data (map pair_words table.generators))
    none none (numbers-shallow table.factor) (depth-rows table.dual) (depth-rows (map pair_words table.generators))

depth-with_moduli : (table : Document) (moduli : Moduli) → members_depth (with_moduli moduli (plain_of table)) ≤ 2
unfolding plain_of with_moduli
depth-with_moduli table moduli =
    depth-full (number_data table.m) (number_data table.p) (numbers_data table.factor) (rows_data table.dual) (rows_data (map pair_words table.generators))
    (number_data moduli.weight) (numbers_data moduli.digits) (rows_data (map row_words moduli.chain)) (rows_data (map row_words moduli.special)) (rows_data moduli.inverse)
    none none (numbers-shallow table.factor) (depth-rows table.dual) (depth-rows (map pair_words table.generators))
    none (numbers-shallow moduli.digits) (depth-rows (map row_words moduli.chain)) (depth-rows (map row_words moduli.special)) (depth-rows moduli.inverse)

depth-by_option : (table : Document) (moduli : Option Moduli) → members_depth (with_option moduli (plain_of table)) ≤ 2
depth-by_option table None = depth-plain_of table
depth-by_option table (Some moduli) = depth-with_moduli table moduli

pub written-shallow : (table : Document) → members_depth (written table) ≤ 80
unfolding written
written-shallow table = omega (arith, depth-by_option table table.moduli)

-- a text that reads as the written table is that table
pub document_of-written : (text : List ℕ) (table : Document) → IsDocument table → is_utf8 text ≡ true → parse_document text ≡ Some (written table)
    → document_of text ≡ Ok table
unfolding document_of members_of
document_of-written text table is utf8 parsed = rw (utf8, parsed) (table_of-written table is)
