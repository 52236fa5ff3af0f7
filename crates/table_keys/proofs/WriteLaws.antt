-- What is read at a key where a value of the form stands.
use Rattle.std.proofs.Common.{◌≡◌, ℕ, zero, suc, ◌+◌, ◌^◌, ◌<◌, ◌≤◌, Bool, true, List, [], ◌∷◌, length, get_or, map, nat_le, nat_lt, Option, Some, Ok, refl, ap, ◌∙◌, arith, String, Vec, Global, string_bytes, Ordering, Less, Equal, Greater}
use Rattle.std.specs.BTreeMap.{insert_entry}
use Rattle.std.specs.List.{All, list_all}
use Rattle.std.specs.Ordering.{match_ordering}
use Rattle.std.specs.String.{string_cmp}
use Rattle.std.proofs.lemmas.Bool.{eq-eqb, le-leb, lt-ltb}
use Rattle.std.proofs.lemmas.List.{length-map}
use Rattle.std.proofs.lemmas.List.Sums.{list_all-from_AllPass}
use Rattle.line_text.specs.declared.kinds.TableKey.{TableKey}
use Rattle.line_text.specs.declared.kinds.TableKey.TheVariants.{Factor, Dual, Generators, Digits, Chain, Inverse}
use Rattle.table_keys.specs.declared.documents.RowDocument.{RowDocument}
use Rattle.toml.proofs.Views.{Entry}
use Rattle.toml.specs.Data.{Data, Members}
use Rattle.toml.specs.View.{items_of, members_view, view}
use Rattle.toml.specs.declared.value.Value.{Value}
use Rattle.table_keys.specs.Values.{each_of, listed, number_at, number_of, numbers_at, numbers_of, rows_at, rows_of, value_at}
use Rattle.table_keys.specs.Keys.{are_below, chain_count, digits_of, dual_of, factor_of, generator_of, generators_of, is_dual, is_dual_row, is_factor, number_within}
use Rattle.table_keys.specs.Documents.{inverse_of, lengthen_from, moduli_at, modulus_of}
use Rattle.table_keys.specs.Shapes.{AreDigits, AreGenerators, AreRows, IsDual, IsFactor, IsFrom, IsSmall, IsSmallRow, IsTriangle}
use Rattle.table_keys.specs.Written.{number_data, numbers_data, pair_words, row_words, rows_data, with_member}

-- an insert into the map of a table is one into its members
match_members : (o : Ordering) (a b c : List Entry) → members_view (match_ordering o a b c) ≡ match_ordering o (members_view a) (members_view b) (members_view c)
match_members Less a b c = refl
match_members Equal a b c = refl
match_members Greater a b c = refl

pub members_view-insert_entry : (es : List Entry) (k : String Global) (v : Value)
    → members_view (insert_entry string_cmp es k v) ≡ with_member (string_bytes k) (view v) (members_view es)
members_view-insert_entry [] k v = refl
members_view-insert_entry (e ∷ es) k v = match_members (string_cmp k e.0) _ _ _ ∙ rw (members_view-insert_entry es k v) refl

-- the items of a list are the list
listed-items_of : (ds : List Data) → listed (items_of ds) ≡ ds
listed-items_of [] = refl
listed-items_of (d ∷ ds) = ap (λ rest. d ∷ rest) (listed-items_of ds)

-- what is formed of what came from it
each_of-map : {A B : Type 0} (form : A → Option B) (back : B → A) (Q : B → Type 0) → ((y : B) → Q y → form (back y) ≡ Some y)
    → (ys : List B) → All Q ys → each_of form (map back ys) ≡ Some ys
each_of-map form back Q each [] all = refl
each_of-map form back Q each (y ∷ ys) all =
    rw (each y (all 0 y (omega arith)), each_of-map form back Q each ys (λ k d within. all (suc k) d (omega arith))) refl

number_of-data : (n : ℕ) → IsSmall n → number_of (number_data n) ≡ Some n
number_of-data n small = rw (lt-ltb n (2 ^ 63) small) refl

numbers_of-data : (ns : List ℕ) → All IsSmall ns → numbers_of (numbers_data ns) ≡ Some ns
unfolding numbers_of numbers_data
numbers_of-data ns small =
    rw (listed-items_of (map number_data ns)) (each_of-map number_of number_data IsSmall number_of-data ns small)

rows_of-data : (rows : List (List ℕ)) → All (λ row. All IsSmall row) rows → rows_of (rows_data rows) ≡ Some rows
unfolding rows_of rows_data
rows_of-data rows small =
    rw (listed-items_of (map numbers_data rows)) (each_of-map numbers_of numbers_data (λ row. All IsSmall row) numbers_of-data rows small)

pub number_within-data : (key : TableKey) (low high n : ℕ) (doc : Members) → value_at key doc ≡ Some (number_data n) → IsFrom low high n → high < 2 ^ 63
    → number_within key low high doc ≡ Ok n
unfolding number_within number_at
number_within-data key low high n doc at within small =
    let here : n < 2 ^ 63 = omega (arith, within.1) in
    rw (at, lt-ltb n (2 ^ 63) here, le-leb low n within.0, le-leb n high within.1) refl

numbers_at-data : (key : TableKey) (ns : List ℕ) (doc : Members) → value_at key doc ≡ Some (numbers_data ns) → All IsSmall ns → numbers_at key doc ≡ Ok ns
unfolding numbers_at
numbers_at-data key ns doc at small = rw (at, numbers_of-data ns small) refl

rows_at-data : (key : TableKey) (rows : List (List ℕ)) (doc : Members) → value_at key doc ≡ Some (rows_data rows) → All (λ row. All IsSmall row) rows
    → rows_at key doc ≡ Ok rows
unfolding rows_at
rows_at-data key rows doc at small = rw (at, rows_of-data rows small) refl

-- a test of each that holds
tested-All : {A : Type 0} (Q : A → Type 0) (test : A → Bool) → ((x : A) → Q x → test x ≡ true) → (xs : List A) → All Q xs → list_all test xs ≡ true
tested-All Q test each xs all = list_all-from_AllPass test xs (λ k d within. each (get_or xs k d) (all k d within))

below-tested : (p : ℕ) (ns : List ℕ) → All (λ c. c < p) ns → are_below p ns ≡ true
below-tested p ns all = tested-All (λ c. c < p) (λ c. nat_lt c p) (λ c less. lt-ltb c p less) ns all

below-small : (p : ℕ) (ns : List ℕ) → p ≤ 131071 → All (λ c. c < p) ns → All IsSmall ns
below-small p ns small all k d within = omega (arith, all k d within)

pub factor_of-data : (p : ℕ) (coeffs : List ℕ) (doc : Members) → value_at Factor doc ≡ Some (numbers_data coeffs) → p ≤ 131071 → IsFactor p coeffs
    → factor_of p doc ≡ Ok coeffs
unfolding factor_of is_factor
factor_of-data p coeffs doc at small is =
    rw (numbers_at-data Factor coeffs doc at (below-small p coeffs small is.below), le-leb 2 (length coeffs) is.count.0, le-leb (length coeffs) 65 is.count.1, below-tested p coeffs is.below, eq-eqb _ 1 is.monic)
    refl

pub dual-small : (p d : ℕ) (rows : List (List ℕ)) → p ≤ 131071 → IsDual p d rows → All (λ row. All IsSmall row) rows
dual-small p d rows small is k e within = below-small p (get_or rows k e) small (is.below k e within)

pub dual_of-data : (p d : ℕ) (rows : List (List ℕ)) (doc : Members) → value_at Dual doc ≡ Some (rows_data rows) → p ≤ 131071 → IsDual p d rows
    → dual_of p d doc ≡ Ok rows
unfolding dual_of is_dual
dual_of-data p d rows doc at small is =
    let small_rows : All (λ row. All IsSmall row) rows = dual-small p d rows small is in
    let tested : list_all (is_dual_row p d) rows ≡ true =
    list_all-from_AllPass (is_dual_row p d) rows (λ k e within. rw (eq-eqb _ d (is.rows k e within), below-tested p (get_or rows k e) (is.below k e within)) refl) in
    rw (rows_at-data Dual rows doc at small_rows, eq-eqb _ d is.count, tested) refl

abbrev IsPair : ℕ → ℕ × ℕ → Type 0
IsPair m pair = (1 ≤ pair.0) × (pair.0 < m) × IsFrom 1 m pair.1

generator_of-words : (m : ℕ) (pair : ℕ × ℕ) → IsPair m pair → generator_of m (pair_words pair) ≡ Some pair
unfolding generator_of
generator_of-words m pair is = rw (le-leb 1 pair.0 is.0, lt-ltb pair.0 m is.1, le-leb 1 pair.1 is.2.0, le-leb pair.1 m is.2.1) refl

All-map : {A B : Type 0} (Q : B → Type 0) (f : A → B) (xs : List A) → All (λ x. Q (f x)) xs → All Q (map f xs)
All-map Q f [] all k d within = absurd (omega arith)
All-map Q f (x ∷ xs) all zero d within = all 0 x (omega arith)
All-map Q f (x ∷ xs) all (suc k) d within = All-map Q f xs (λ j e less. all (suc j) e (omega arith)) k d (omega arith)

pub All-unmap : {A B : Type 0} (Q : B → Type 0) (f : A → B) (xs : List A) → All Q (map f xs) → All (λ x. Q (f x)) xs
All-unmap Q f [] all k d within = absurd (omega arith)
All-unmap Q f (x ∷ xs) all zero d within = all 0 (f x) (omega arith)
All-unmap Q f (x ∷ xs) all (suc k) d within = All-unmap Q f xs (λ j e less. all (suc j) e (omega arith)) k d (omega arith)

-- lists whose numbers are seen to be below 2^63
pub rows_small : (rows : List (Vec ℕ Global)) (values : List (List ℕ)) → map (λ row. row.items) rows ≡ values → All (λ row. All IsSmall row) values
    → All (λ row. All IsSmall row.items) rows
rows_small rows values same small = All-unmap (λ row. All IsSmall row) (λ row. row.items) rows (rw same small)

pair-small : (m : ℕ) (pair : ℕ × ℕ) → m ≤ 65536 → IsPair m pair → All IsSmall (pair_words pair)
pair-small m pair small is zero d within = omega (arith, is.1)
pair-small m pair small is (suc zero) d within = omega (arith, is.2.1)
pair-small m pair small is (suc (suc k)) d within = absurd (omega arith)

pub generators_of-data : (m : ℕ) (pairs : List (ℕ × ℕ)) (doc : Members) → value_at Generators doc ≡ Some (rows_data (map pair_words pairs)) → m ≤ 65536
    → AreGenerators m pairs → generators_of m doc ≡ Ok pairs
unfolding generators_of
generators_of-data m pairs doc at small is =
    let all : All (IsPair m) pairs = λ k d within. ((is.numbers k d within).0, (is.numbers k d within).1, is.sizes k d within) in
    let small_rows : All (λ row. All IsSmall row) (map pair_words pairs) =
    All-map (λ row. All IsSmall row) pair_words pairs (λ k d within. pair-small m (get_or pairs k d) small (all k d within)) in
    rw (rows_at-data Generators (map pair_words pairs) doc at small_rows, each_of-map (generator_of m) pair_words (IsPair m) (generator_of-words m) pairs all, le-leb (length pairs) 16 is.count)
    refl

pub digits_of-data : (sizes : List ℕ) (count : ℕ) (doc : Members) → value_at Digits doc ≡ Some (numbers_data sizes) → chain_count doc ≡ Some count → All IsSmall sizes
    → AreDigits count sizes → digits_of doc ≡ Ok sizes
unfolding digits_of
digits_of-data sizes count doc at chain small is =
    rw (numbers_at-data Digits sizes doc at small, tested-All (λ size. 1 ≤ size) (nat_le 1) (λ size some. le-leb 1 size some) sizes is.positive, chain, eq-eqb _ count is.total) refl

-- how many lists stand at `chain`
pub chain_count-data : {A : Type 0} (rows : List A) (words : A → List ℕ) (doc : Members) → value_at Chain doc ≡ Some (rows_data (map words rows)) → chain_count doc ≡ Some (length rows)
unfolding chain_count rows_data
chain_count-data rows words doc at =
    rw (at, listed-items_of (map numbers_data (map words rows)), length-map (map words rows) numbers_data, length-map rows words) refl

modulus_of-words : (row : RowDocument) → modulus_of (row_words row) ≡ Some row
unfolding modulus_of
modulus_of-words row = refl

row-small : (row : RowDocument) → IsSmallRow row → All IsSmall (row_words row)
row-small row is zero d within = is.q
row-small row is (suc zero) d within = is.zeta
row-small row is (suc (suc zero)) d within = is.psi
row-small row is (suc (suc (suc zero))) d within = is.plain_inverse
row-small row is (suc (suc (suc (suc k)))) d within = absurd (omega arith)

pub moduli_at-data : (key : TableKey) (most : ℕ) (rows : List RowDocument) (doc : Members) → value_at key doc ≡ Some (rows_data (map row_words rows)) → AreRows most rows
    → moduli_at key most doc ≡ Ok rows
unfolding moduli_at
moduli_at-data key most rows doc at is =
    let small_rows : All (λ row. All IsSmall row) (map row_words rows) =
    All-map (λ row. All IsSmall row) row_words rows (λ k d within. row-small (get_or rows k d) (is.small k d within)) in
    rw (rows_at-data key (map row_words rows) doc at small_rows, each_of-map modulus_of row_words IsSmallRow (λ row _. modulus_of-words row) rows is.small, le-leb 1 (length rows) is.count.0, le-leb (length rows) most is.count.1)
    refl

lengthen-tested : (n : ℕ) (rows : List (List ℕ)) → ((j : ℕ) → j < length rows → length (get_or rows j []) ≡ n + j) → lengthen_from n rows ≡ true
lengthen-tested n [] each = refl
lengthen-tested n (row ∷ rows) each =
    let first : length row ≡ n = omega (arith, each 0 (omega arith)) in
    rw (eq-eqb (length row) n first, lengthen-tested (n + 1) rows (λ j within. omega (arith, each (suc j) (omega arith)))) refl

pub inverse_of-data : (count : ℕ) (rows : List (List ℕ)) (doc : Members) → value_at Inverse doc ≡ Some (rows_data rows) → IsTriangle count rows
    → inverse_of count doc ≡ Ok rows
unfolding inverse_of
inverse_of-data count rows doc at is =
    rw (rows_at-data Inverse rows doc at is.small, eq-eqb _ count is.count, lengthen-tested 0 rows (λ j within. omega (arith, is.rows j within))) refl
