-- Polynomials that are read were spelled so, and spelled polynomials are read again.
use Rattle.std.proofs.Common.{◌≡◌, ℕ, ◌^◌, ◌<◌, ◌≤◌, false, ltb, List, [], ◌∷◌, length, get_or, map, take, All, Ok, sym, ap, subst, ◌∙◌, arith}
use Rattle.std.specs.List.{AllZip}
use Rattle.std.proofs.lemmas.Bool.{ltb-true, lt-ltb}
use Rattle.std.proofs.lemmas.List.{append-nil}
use Rattle.std.proofs.lemmas.List.Elements.{All-head, All-tail, All-weaker, All-from_recursion, recursion_from_All}
use Rattle.moduli_table.specs.declared.rows.ModRow.{ModRow}
use Rattle.moduli_table.specs.Chain.{Chain}
use Rattle.cyclotomic.specs.Cyclotomic.{degree}
use Rattle.residue_rows.specs.Rows.{AreRows}
use Rattle.residue_rows.specs.Kept.{RingSetting, IsSetting, Residues, IsKept, rows_kept, moduli_kept, values_each, interpolated_each, polynomial_values}
use Rattle.residue_rows.proofs.ModuliKept.{roots_are, moduli_are}
use Rattle.residue_rows.proofs.ValuesEach.{interpolated_in, values_in, each_forth, each_back}
use Rattle.he_files.specs.Form.{Form, several}
use Rattle.he_files.specs.Polynomial.{residue, residue_rows, polynomial}
use Rattle.he_files.proofs.Forms.{IsForm, bytes_are}
use Rattle.he_files.proofs.FieldForms.{IsAllowedNumber, number64_is}
use Rattle.he_files.proofs.FormLists.{AreSeveral, several_is, each_is, written_as_is}

-- a form under another word for what fits
pub fits_so : {A : Type 0} (form : Form A) (Fits Seen : A → Type 0) → IsForm form Fits → ((x : A) → Seen x → Fits x) → ((x : A) → Fits x → Seen x) → IsForm form Seen
fits_so form Fits Seen is there back = record {
  again = λ bytes at x rest seen s. is.again bytes at x rest (there x seen) s;
  found = λ bytes at y all inside e.
      let f = is.found bytes at y all inside e in
      record { rest = f.rest; stands = f.stands; end = f.end; fits = back y.0 f.fits };
}

-- n numbers of eight bytes below q
abbrev AreNumbers : ℕ → ℕ → List ℕ → Type 0
AreNumbers n q row = AreSeveral (IsAllowedNumber (2 ^ 64) (λ x. ltb x q)) n row

-- residues modulo q, which is below 2^64
abbrev IsRowOf : ℕ → ℕ → List ℕ → Type 0
IsRowOf n q row = (length row ≡ n) × All (λ c. c < q) row

numbers_of_row : (n q : ℕ) (row : List ℕ) → q < 2 ^ 64 → IsRowOf n q row → AreNumbers n q row
numbers_of_row n q row small h = record {
  long = h.0;
  each = recursion_from_All _ row (All-weaker (λ c. c < q) (IsAllowedNumber (2 ^ 64) (λ x. ltb x q)) (λ c lt. record { below = omega arith; passes = lt-ltb c q lt }) row h.1);
}

row_of_numbers : (n q : ℕ) (row : List ℕ) → AreNumbers n q row → IsRowOf n q row
row_of_numbers n q row h = (h.long, All-weaker (IsAllowedNumber (2 ^ 64) (λ x. ltb x q)) (λ c. c < q) (λ c a. ltb-true c q a.passes) row (All-from_recursion _ row h.each))

numbers_of_rows : (n : ℕ) (qs : List ℕ) (rows : List (List ℕ)) → All (λ q. q < 2 ^ 64) qs → AllZip (IsRowOf n) qs rows → AllZip (AreNumbers n) qs rows
numbers_of_rows n [] [] small h = tt
numbers_of_rows n [] (row ∷ rows) small h = absurd h
numbers_of_rows n (q ∷ qs) [] small h = absurd h
numbers_of_rows n (q ∷ qs) (row ∷ rows) small h =
    (numbers_of_row n q row (All-head (λ q. q < 2 ^ 64) q qs small) h.0, numbers_of_rows n qs rows (All-tail (λ q. q < 2 ^ 64) q qs small) h.1)

rows_of_numbers : (n : ℕ) (qs : List ℕ) (rows : List (List ℕ)) → AllZip (AreNumbers n) qs rows → AllZip (IsRowOf n) qs rows
rows_of_numbers n [] [] h = tt
rows_of_numbers n [] (row ∷ rows) h = absurd h
rows_of_numbers n (q ∷ qs) [] h = absurd h
rows_of_numbers n (q ∷ qs) (row ∷ rows) h = (row_of_numbers n q row h.0, rows_of_numbers n qs rows h.1)

pub residue_rows_is : (m : ℕ) (qs : List ℕ) → All (λ q. q < 2 ^ 64) qs → IsForm (residue_rows (degree m) qs) (AreRows m qs)
residue_rows_is m qs small =
    let n = degree m in
    fits_so (residue_rows n qs) (AllZip (AreNumbers n) qs) (AreRows m qs)
    (each_is (λ q. several n (residue q)) (AreNumbers n) (λ q. several_is (residue q) (IsAllowedNumber (2 ^ 64) (λ x. ltb x q)) (number64_is (λ x. ltb x q)) n) qs)
    (λ rows. numbers_of_rows n qs rows small)
    (rows_of_numbers n qs)

module _ (t : RingSetting) (S : IsSetting t) (count : ℕ) (few : count ≤ length t.moduli.chain) where
  pub small_moduli : All (λ q. q < 2 ^ 64) (moduli_kept t count false)
  small_moduli = All-weaker (λ q. (3 ≤ q) × (q < 2 ^ 62)) (λ q. q < 2 ^ 64) (λ q h. let lt : q < 2 ^ 62 = h.1 in omega arith) (moduli_kept t count false) (moduli_are t S count false few).range

  pub polynomial_is : IsForm (polynomial t count) (AreRows t.moduli.m (moduli_kept t count false))
  polynomial_is =
      let m = t.moduli.m in
      let rs = rows_kept t count false in
      let qs = moduli_kept t count false in
      let roots = roots_are t S count false few in
      written_as_is (values_each m rs) (interpolated_each m rs) (residue_rows (degree m) qs) (AreRows m qs) (AreRows m qs) (residue_rows_is m qs small_moduli) (record {
        fits = values_in m rs roots;
        same = each_back m rs roots;
        seen = interpolated_in m rs roots;
        again = each_forth m rs roots;
      })

-- ---- what the code reads

-- the moduli of rows without the special ones
kept_same : (t : RingSetting) (count : ℕ) → map (λ r. r.q) (take count t.moduli.chain) ≡ moduli_kept t count false
kept_same t count = ap (λ (rs : List ModRow). map (λ r. r.q) rs) (sym (append-nil (take count t.moduli.chain)))

-- rows that are read with the degree and the moduli of tables
pub rows_read : (t u v : RingSetting) (moduli : Chain) (n count : ℕ) (bytes : List ℕ) (at : ℕ) (rows : List (List ℕ)) (end : ℕ) → u ≡ t → v ≡ t → n ≡ degree u.moduli.m → moduli ≡ v.moduli
    → (residue_rows n (map (λ r. r.q) (take count moduli.chain))).read bytes at ≡ Ok (rows, end) → (residue_rows (degree t.moduli.m) (moduli_kept t count false)).read bytes at ≡ Ok (rows, end)
rows_read t u v moduli n count bytes at rows end u-is v-is n-is moduli-is e =
    let n-same : n ≡ degree t.moduli.m = n-is ∙ ap (λ (z : RingSetting). degree z.moduli.m) u-is in
    let moduli-same : moduli ≡ t.moduli = moduli-is ∙ ap (λ (z : RingSetting). z.moduli) v-is in
    let qs : map (λ r. r.q) (take count moduli.chain) ≡ moduli_kept t count false = ap (λ (z : Chain). map (λ r. r.q) (take count z.chain)) moduli-same ∙ kept_same t count in
    subst (λ k. (residue_rows k (moduli_kept t count false)).read bytes at ≡ Ok (rows, end)) n-same (subst (λ (z : List ℕ). (residue_rows n z).read bytes at ≡ Ok (rows, end)) qs e)

module _ (t : RingSetting) (S : IsSetting t) (count : ℕ) (few : count ≤ length t.moduli.chain) where
  -- they are rows of residues
  pub rows_fit : (bytes : List ℕ) (at : ℕ) (rows : List (List ℕ)) (end : ℕ) → ((i : ℕ) → get_or bytes i 0 < 256) → at ≤ length bytes → (residue_rows (degree t.moduli.m) (moduli_kept t count false)).read bytes at ≡ Ok (rows, end)
      → AreRows t.moduli.m (moduli_kept t count false) rows
  rows_fit bytes at rows end fits inside e = ((residue_rows_is t.moduli.m (moduli_kept t count false) (small_moduli t S count few)).found bytes at (rows, end) (bytes_are bytes fits) inside e).fits

-- a polynomial is the one of its values
pub rows_of_values : (a : Residues) (t : RingSetting) (count : ℕ) (v : List (List ℕ)) → IsKept a → a.tables ≡ t → a.chain_rows ≡ count → a.special ≡ false → polynomial_values a ≡ v → a.rows ≡ interpolated_each t.moduli.m (rows_kept t count false) v
rows_of_values a t count v kept tables chain_rows special values =
    let rs = rows_kept a.tables a.chain_rows a.special in
    let own : interpolated_each a.tables.moduli.m rs (polynomial_values a) ≡ a.rows = each_back a.tables.moduli.m rs (roots_are a.tables kept.setting a.chain_rows a.special kept.chain_fits) a.rows kept.rows_in in
    sym own
    ∙ ap (interpolated_each a.tables.moduli.m rs) values
    ∙ ap (λ (z : RingSetting). interpolated_each z.moduli.m (rows_kept z a.chain_rows a.special) v) tables
    ∙ ap (λ n. interpolated_each t.moduli.m (rows_kept t n a.special) v) chain_rows
    ∙ ap (λ b. interpolated_each t.moduli.m (rows_kept t count b) v) special

-- a polynomial whose values were read
pub polynomial_read : (t : RingSetting) (count : ℕ) (bytes : List ℕ) (at : ℕ) (v : List (List ℕ)) (end : ℕ) (a : Residues) → IsKept a → a.tables ≡ t → a.chain_rows ≡ count → a.special ≡ false → polynomial_values a ≡ v
    → (residue_rows (degree t.moduli.m) (moduli_kept t count false)).read bytes at ≡ Ok (v, end) → (polynomial t count).read bytes at ≡ Ok (a.rows, end)
polynomial_read t count bytes at v end a kept tables chain_rows special values e =
    rw e (ap (λ (r : List (List ℕ)). Ok (r, end)) (sym (rows_of_values a t count v kept tables chain_rows special values)))
