-- What holds of what is read at each key.
use Rattle.std.proofs.Common.{ℤ, pos, negsuc, option_and_then, ◌%◌, nat_lt, if◌then◌else◌, ◌≡◌, ℕ, zero, suc, ◌+◌, ◌-◌, ◌^◌, ◌<◌, ◌≤◌, Bool, true, false, ◌&&◌, ◌==◌, List, [], ◌∷◌, length, get_or, sum, nat_le, Option, Some, None, Ok, refl, sym, ap, ◌∙◌, arith, leb}
use Rattle.std.specs.List.{All, list_all}
use Rattle.std.proofs.lemmas.Bool.{and_parts, leb-true, ltb-true, eqb-true}
use Rattle.std.proofs.lemmas.List.Sums.{get_or-le-sum_by}
use Rattle.line_text.specs.declared.kinds.TableKey.{TableKey}
use Rattle.line_text.specs.declared.kinds.TableKey.TheVariants.{Factor, Dual, Generators, Digits, Chain, Inverse}
use Rattle.table_keys.specs.declared.documents.RowDocument.{RowDocument}
use Rattle.toml.specs.Data.{Data, Members, as_array, as_integer}
use Rattle.table_keys.specs.Values.{shaped, count_of, each_of, list_of, listed, natural, number_at, number_of, numbers_at, numbers_of, rows_at, rows_of, value_at}
use Rattle.table_keys.specs.Keys.{adds_up, are_below, chain_count, digits_of, dual_of, factor_of, generator_of, generators_of, is_dual, is_dual_row, is_factor, is_within, number_within}
use Rattle.table_keys.specs.Documents.{inverse_of, lengthen_from, moduli_at, modulus_of}
use Rattle.table_keys.specs.Templates.{is_modulus, plain_moduli_at}
use Rattle.table_keys.specs.Shapes.{AreDigits, AreGenerators, ArePlainModuli, IsDual, IsFactor, AreRows, IsFrom, IsSmall, IsSmallRow, IsTriangle}
use Rattle.table_keys.proofs.ChainLaws.{All-each_of, All-each_of_from, All-tested, and_then_some, formed_ok, kept_ok, length-each_of, shaped_ok}

pub IsFrom-tested : (low high n : ℕ) → is_within low high n ≡ true → IsFrom low high n
IsFrom-tested low high n is =
    let parts = and_parts (leb low n) (leb n high) is in
    (leb-true low n parts.0, leb-true n high parts.1)

pub number_within-shape : (key : TableKey) (low high n : ℕ) (doc : Members) → number_within key low high doc ≡ Ok n → IsFrom low high n
unfolding number_within
number_within-shape key low high n doc is =
    let kept = kept_ok (shaped key (number_at key doc)) key (is_within low high) n is in
    IsFrom-tested low high n (kept.1)

pub factor_of-shape : (p : ℕ) (coeffs : List ℕ) (doc : Members) → factor_of p doc ≡ Ok coeffs → IsFactor p coeffs
unfolding factor_of is_factor
factor_of-shape p coeffs doc is =
    let kept = kept_ok (numbers_at Factor doc) Factor (is_factor p) coeffs is in
    let parts = and_parts (is_within 2 65 (length coeffs)) _ kept.1 in
    let more = and_parts (are_below p coeffs) _ parts.1 in
    record {
      count = IsFrom-tested 2 65 (length coeffs) parts.0;
      below = All-tested (λ c. c < p) _ (λ c is. ltb-true c p is) coeffs more.0;
      monic = eqb-true _ 1 more.1;
    }

pub dual_of-shape : (p d : ℕ) (rows : List (List ℕ)) (doc : Members) → dual_of p d doc ≡ Ok rows → IsDual p d rows
unfolding dual_of is_dual
dual_of-shape p d rows doc is =
    let kept = kept_ok (rows_at Dual doc) Dual (is_dual p d) rows is in
    let parts = and_parts (length rows == d) _ kept.1 in
    record {
      count = eqb-true _ d parts.0;
      rows = All-tested (λ row. length row ≡ d) (is_dual_row p d) (λ row is. eqb-true _ d (and_parts (length row == d) (are_below p row) is).0) rows parts.1;
      below = All-tested (λ row. All (λ c. c < p) row) (is_dual_row p d)
          (λ row is. All-tested (λ c. c < p) _ (λ c below. ltb-true c p below) row (and_parts (length row == d) (are_below p row) is).1) rows parts.1;
    }

abbrev pub IsGenerator : ℕ → ℕ × ℕ → Type 0
IsGenerator m pair = (1 ≤ pair.0) × (pair.0 < m) × IsFrom 1 m pair.1

pair_of_test : (m g size : ℕ) (pair : ℕ × ℕ) (a b : Bool) → (nat_le 1 g && nat_lt g m) ≡ a → is_within 1 m size ≡ b
    → (if a && b then Some (g, size) else None) ≡ Some pair → IsGenerator m pair
pair_of_test m g size pair true true first second is =
    let parts = and_parts (nat_le 1 g) (nat_lt g m) first in
    let same : (g, size) ≡ pair = cc in
    rw (← same) (leb-true 1 g parts.0, ltb-true g m parts.1, IsFrom-tested 1 m size second)
pair_of_test m g size pair true false first second is = absurd (cc)
pair_of_test m g size pair false b first second is = absurd (cc)

generator_of-shape : (m : ℕ) (row : List ℕ) (pair : ℕ × ℕ) → generator_of m row ≡ Some pair → IsGenerator m pair
unfolding generator_of
generator_of-shape m [] pair is = absurd (cc)
generator_of-shape m (g ∷ []) pair is = absurd (cc)
generator_of-shape m (g ∷ size ∷ []) pair is = pair_of_test m g size pair _ _ refl refl is
generator_of-shape m (g ∷ size ∷ n ∷ more) pair is = absurd (cc)

pub generators_of-shape : (m : ℕ) (pairs : List (ℕ × ℕ)) (doc : Members) → generators_of m doc ≡ Ok pairs → AreGenerators m pairs
unfolding generators_of
generators_of-shape m pairs doc is =
    let formed = formed_ok (rows_at Generators doc) Generators (generator_of m) (λ pairs. nat_le (length pairs) 16) pairs is in
    let each : All (IsGenerator m) pairs = All-each_of (IsGenerator m) (generator_of m) (generator_of-shape m) formed.0 pairs formed.2 in
    record {
      count = leb-true (length pairs) 16 formed.3;
      numbers = λ k d within. let here = each k d within in (here.0, here.1);
      sizes = λ k d within. (each k d within).2;
    }

-- the sizes of the groups, where the chain is read too
total_of_count : (o : Option ℕ) (n : ℕ) (sizes : List ℕ) → o ≡ Some n → adds_up o sizes ≡ true → sum sizes ≡ n
total_of_count o n sizes is all = eqb-true (sum sizes) n (rw is at all)

pub digits_of-shape : (n : ℕ) (sizes : List ℕ) (doc : Members) → chain_count doc ≡ Some n → digits_of doc ≡ Ok sizes → AreDigits n sizes
unfolding digits_of
digits_of-shape n sizes doc count is =
    let kept = kept_ok (numbers_at Digits doc) Digits (λ sizes. list_all (nat_le 1) sizes && adds_up (chain_count doc) sizes) sizes is in
    let parts = and_parts (list_all (nat_le 1) sizes) (adds_up (chain_count doc) sizes) kept.1 in
    record {
      positive = All-tested (λ size. 1 ≤ size) (nat_le 1) (λ size is. leb-true 1 size is) sizes parts.0;
      total = total_of_count (chain_count doc) n sizes count parts.1;
    }

-- a list that is read has as many elements as its array
count_of-list : {A : Type 0} (form : Data → Option A) (value : Data) (xs : List A) → list_of form value ≡ Some xs → count_of value ≡ Some (length xs)
count_of-list form value xs is =
    let array = and_then_some _ (as_array value) xs is in
    rw array.1 (ap Some (sym (length-each_of form (listed array.0) xs array.2)))

count_of-numbers : (value : Data) (xs : List ℕ) → numbers_of value ≡ Some xs → count_of value ≡ Some (length xs)
unfolding numbers_of
count_of-numbers value xs is = count_of-list number_of value xs is

count_of-rows : (value : Data) (xs : List (List ℕ)) → rows_of value ≡ Some xs → count_of value ≡ Some (length xs)
unfolding rows_of
count_of-rows value xs is = count_of-list numbers_of value xs is

chain_count-numbers : (xs : List ℕ) (doc : Members) → numbers_at Chain doc ≡ Ok xs → chain_count doc ≡ Some (length xs)
unfolding chain_count numbers_at
chain_count-numbers xs doc is =
    let value = and_then_some numbers_of (value_at Chain doc) xs (shaped_ok Chain _ xs is) in
    rw value.1 (count_of-numbers value.0 xs value.2)

chain_count-rows : (xs : List (List ℕ)) (doc : Members) → rows_at Chain doc ≡ Ok xs → chain_count doc ≡ Some (length xs)
unfolding chain_count rows_at
chain_count-rows xs doc is =
    let value = and_then_some rows_of (value_at Chain doc) xs (shaped_ok Chain _ xs is) in
    rw value.1 (count_of-rows value.0 xs value.2)

-- each number that is read is below 2^63
natural_by : (k n : ℕ) (b : Bool) → nat_lt k (2 ^ 63) ≡ b → (if b then Some k else None) ≡ Some n → IsSmall n
natural_by k n true less is = let same : k ≡ n = cc in rw (← same) (ltb-true k (2 ^ 63) less)
natural_by k n false less is = absurd (cc)

natural-small : (z : ℤ) (n : ℕ) → natural z ≡ Some n → IsSmall n
natural-small (pos k) n is = natural_by k n (nat_lt k (2 ^ 63)) refl is
natural-small (negsuc k) n is = absurd (cc)

number_of-small : (value : Data) (n : ℕ) → number_of value ≡ Some n → IsSmall n
number_of-small value n is =
    let z = and_then_some natural (as_integer value) n is in
    natural-small z.0 n z.2

numbers_of-small : (value : Data) (ns : List ℕ) → numbers_of value ≡ Some ns → All IsSmall ns
unfolding numbers_of
numbers_of-small value ns is =
    let items = and_then_some (λ items. each_of number_of (listed items)) (as_array value) ns is in
    All-each_of IsSmall number_of number_of-small (listed items.0) ns items.2

rows_of-small : (value : Data) (rows : List (List ℕ)) → rows_of value ≡ Some rows → All (λ row. All IsSmall row) rows
unfolding rows_of
rows_of-small value rows is =
    let items = and_then_some (λ items. each_of numbers_of (listed items)) (as_array value) rows is in
    All-each_of (λ row. All IsSmall row) numbers_of numbers_of-small (listed items.0) rows items.2

rows_at-small : (key : TableKey) (rows : List (List ℕ)) (doc : Members) → rows_at key doc ≡ Ok rows → All (λ row. All IsSmall row) rows
unfolding rows_at
rows_at-small key rows doc is =
    let value = and_then_some rows_of (value_at key doc) rows (shaped_ok key (option_and_then rows_of (value_at key doc)) rows is) in
    rows_of-small value.0 rows value.2

modulus_of-small : (row : List ℕ) (modulus : RowDocument) → All IsSmall row → modulus_of row ≡ Some modulus → IsSmallRow modulus
unfolding modulus_of
modulus_of-small [] modulus all is = absurd (cc)
modulus_of-small (q ∷ []) modulus all is = absurd (cc)
modulus_of-small (q ∷ zeta ∷ []) modulus all is = absurd (cc)
modulus_of-small (q ∷ zeta ∷ psi ∷ []) modulus all is = absurd (cc)
modulus_of-small (q ∷ zeta ∷ psi ∷ inverse ∷ []) modulus all is =
    let same : record { q = q; zeta = zeta; psi = psi; plain_inverse = inverse } ≡ modulus = cc in
    rw (← same) (record { q = all 0 q (omega arith); zeta = all 1 q (omega arith); psi = all 2 q (omega arith); plain_inverse = all 3 q (omega arith) })
modulus_of-small (q ∷ zeta ∷ psi ∷ inverse ∷ n ∷ more) modulus all is = absurd (cc)

pub moduli_at-shape : (key : TableKey) (most : ℕ) (moduli : List RowDocument) (doc : Members) → moduli_at key most doc ≡ Ok moduli → AreRows most moduli
unfolding moduli_at
moduli_at-shape key most moduli doc is =
    let formed = formed_ok (rows_at key doc) key modulus_of (λ moduli. is_within 1 most (length moduli)) moduli is in
    record {
      count = IsFrom-tested 1 most (length moduli) formed.3;
      small = All-each_of_from (λ row. All IsSmall row) IsSmallRow modulus_of modulus_of-small formed.0 moduli (rows_at-small key formed.0 doc formed.1) formed.2;
    }

pub chain_count-moduli : (most : ℕ) (moduli : List RowDocument) (doc : Members) → moduli_at Chain most doc ≡ Ok moduli → chain_count doc ≡ Some (length moduli)
unfolding moduli_at
chain_count-moduli most moduli doc is =
    let formed = formed_ok (rows_at Chain doc) Chain modulus_of (λ moduli. is_within 1 most (length moduli)) moduli is in
    chain_count-rows formed.0 doc formed.1 ∙ ap Some (sym (length-each_of modulus_of formed.0 moduli formed.2))

pub plain_moduli_at-shape : (key : TableKey) (most : ℕ) (moduli : List ℕ) (doc : Members) → plain_moduli_at key most doc ≡ Ok moduli → ArePlainModuli most moduli
unfolding plain_moduli_at
plain_moduli_at-shape key most moduli doc is =
    let kept = kept_ok (numbers_at key doc) key (λ moduli. is_within 1 most (length moduli) && list_all is_modulus moduli) moduli is in
    let parts = and_parts (is_within 1 most (length moduli)) (list_all is_modulus moduli) kept.1 in
    record {
      count = IsFrom-tested 1 most (length moduli) parts.0;
      size = All-tested (λ q. IsFrom 3 (2 ^ 62 - 1) q) is_modulus (λ q is. IsFrom-tested 3 (2 ^ 62 - 1) q (and_parts (is_within 3 (2 ^ 62 - 1) q) (q % 2 == 1) is).0) moduli parts.1;
      odd = All-tested (λ q. q % 2 ≡ 1) is_modulus (λ q is. eqb-true (q % 2) 1 (and_parts (is_within 3 (2 ^ 62 - 1) q) (q % 2 == 1) is).1) moduli parts.1;
    }

pub chain_count-plain : (most : ℕ) (moduli : List ℕ) (doc : Members) → plain_moduli_at Chain most doc ≡ Ok moduli → chain_count doc ≡ Some (length moduli)
unfolding plain_moduli_at
chain_count-plain most moduli doc is =
    let kept = kept_ok (numbers_at Chain doc) Chain (λ moduli. is_within 1 most (length moduli) && list_all is_modulus moduli) moduli is in
    chain_count-numbers moduli doc kept.0

-- each size is within the chain's length
pub size-small : (n : ℕ) (sizes : List ℕ) → n ≤ 32 → AreDigits n sizes → All (λ size. size < 2 ^ 32) sizes
size-small n sizes few digits k d within =
    omega (arith, get_or-le-sum_by (λ x. x) sizes k d within, digits.total)

pub digits-small : (sizes : List ℕ) (moduli : List RowDocument) (doc : Members) → digits_of doc ≡ Ok sizes → moduli_at Chain 32 doc ≡ Ok moduli
    → All (λ size. size < 2 ^ 32) sizes
digits-small sizes moduli doc digits chain =
    size-small (length moduli) sizes (moduli_at-shape Chain 32 moduli doc chain).count.1
    (digits_of-shape (length moduli) sizes doc (chain_count-moduli 32 moduli doc chain) digits)

pub digits-small_plain : (sizes moduli : List ℕ) (doc : Members) → digits_of doc ≡ Ok sizes → plain_moduli_at Chain 32 doc ≡ Ok moduli
    → All (λ size. size < 2 ^ 32) sizes
digits-small_plain sizes moduli doc digits chain =
    size-small (length moduli) sizes (plain_moduli_at-shape Chain 32 moduli doc chain).count.1
    (digits_of-shape (length moduli) sizes doc (chain_count-plain 32 moduli doc chain) digits)

-- list j of j numbers
rows_lengthen : (n : ℕ) (rows : List (List ℕ)) → lengthen_from n rows ≡ true → (j : ℕ) → j < length rows → length (get_or rows j []) ≡ n + j
rows_lengthen n [] is j within = absurd (omega arith)
rows_lengthen n (row ∷ rows) is zero within =
    let parts = and_parts (length row == n) (lengthen_from (n + 1) rows) is in
    omega (arith, eqb-true (length row) n parts.0)
rows_lengthen n (row ∷ rows) is (suc j) within =
    let parts = and_parts (length row == n) (lengthen_from (n + 1) rows) is in
    omega (arith, rows_lengthen (n + 1) rows parts.1 j (omega arith))

pub inverse_of-shape : (moduli : ℕ) (rows : List (List ℕ)) (doc : Members) → inverse_of moduli doc ≡ Ok rows → IsTriangle moduli rows
unfolding inverse_of
inverse_of-shape moduli rows doc is =
    let kept = kept_ok (rows_at Inverse doc) Inverse (λ rows. length rows == moduli && lengthen_from 0 rows) rows is in
    let parts = and_parts (length rows == moduli) (lengthen_from 0 rows) kept.1 in
    record {
      count = eqb-true (length rows) moduli parts.0;
      small = rows_at-small Inverse rows doc kept.0;
      rows = λ j within. omega (arith, rows_lengthen 0 rows parts.1 j within);
    }
