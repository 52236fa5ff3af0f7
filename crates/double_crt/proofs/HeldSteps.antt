-- Rows that are held for the moduli that are kept, one by one.
use Rattle.std.specs.List.{AllZip}
use Rattle.std.proofs.Common.{◌≡◌, refl, ℕ, zero, suc, ◌+◌, ◌<◌, ◌≤◌, Bool, List, [], ◌∷◌, ◌++◌, length, map, take, get_or, All, arith, ap, sym, ◌∙◌, subst, Vec, Global, ℤ}
use Rattle.std.proofs.lemmas.List.{length-map, get_or-map, get_or_default, map-append}
use Rattle.std.proofs.Math.Seq.{take-suc}
use Rattle.bluestein.specs.Plan.{Roots}
use Rattle.cyclotomic.specs.Cyclotomic.{degree}
use Rattle.moduli_table.specs.declared.rows.ModRow.{ModRow}
use Rattle.moduli_table.specs.Chain.{no_row}
use Rattle.residue_rows.specs.Rows.{AreRows, rows_of, row_of}
use Rattle.residue_rows.specs.Values.{values_of, interpolated}
use Rattle.residue_rows.specs.Kept.{RingSetting, rows_kept, moduli_kept, root_of, values_each, interpolated_each}
use Rattle.double_crt.specs.Held.{entries_in, AreHeld}
use Rattle.double_crt.specs.ModuloRows.{ModuloRow, empty_row}
use Rattle.double_crt.specs.Roots.{roots_of_row}

-- what holds of the pairs of two lists, at one place
pub zip_at : {A B : Type 0} (R : A → B → Type 0) (xs : List A) (ys : List B) (i : ℕ) (d : A) (e : B) → AllZip R xs ys → i < length xs → R (get_or xs i d) (get_or ys i e)
zip_at R [] ys i d e h l = absurd (omega arith)
zip_at R (x ∷ xs) [] i d e h l = absurd h
zip_at R (x ∷ xs) (y ∷ ys) zero d e h l = h.0
zip_at R (x ∷ xs) (y ∷ ys) (suc i) d e h l = zip_at R xs ys i d e h.1 (omega arith)

pub zip_long : {A B : Type 0} (R : A → B → Type 0) (xs : List A) (ys : List B) → AllZip R xs ys → length ys ≡ length xs
zip_long R [] [] h = refl
zip_long R [] (y ∷ ys) h = absurd h
zip_long R (x ∷ xs) [] h = absurd h
zip_long R (x ∷ xs) (y ∷ ys) h = ap suc (zip_long R xs ys h.1)

-- one more, as many as the first of a list
pub pushed : {A B : Type 0} (f : A → B) (old new : List A) (x : A) (xs : List B) (i : ℕ) (d : B) → new ≡ old ++ x ∷ [] → map f old ≡ take i xs → i < length xs → f x ≡ get_or xs i d → map f new ≡ take (i + 1) xs
pushed f old new x xs i d e h l g = ap (map f) e ∙ map-append f old (x ∷ []) ∙ ap (λ ys. ys ++ f x ∷ []) h ∙ ap (λ y. take i xs ++ y ∷ []) g ∙ sym (take-suc xs i d l) ∙ ap (λ n. take n xs) (let s : suc i ≡ i + 1 = omega arith in s)

-- all of a list, where they are as many
pub all_taken : {A : Type 0} (xs ys : List A) (i : ℕ) → ys ≡ take i xs → length xs ≤ i → ys ≡ xs
all_taken xs ys i e l = e ∙ take_all xs i l
  where
    take_all : {A : Type 0} (xs : List A) (i : ℕ) → length xs ≤ i → take i xs ≡ xs
    take_all [] zero l = refl
    take_all [] (suc i) l = refl
    take_all (x ∷ xs) zero l = absurd (omega arith)
    take_all (x ∷ xs) (suc i) l = ap (λ ys. x ∷ ys) (take_all xs i (omega arith))

-- the rows of residues and of values, one by one
pub interpolated_at : (m : ℕ) (rs : List ModRow) (vs : List (List ℕ)) (i : ℕ) → length vs ≡ length rs → i < length rs → get_or (interpolated_each m rs vs) i [] ≡ interpolated m (root_of (get_or rs i no_row)) (get_or vs i [])
unfolding interpolated_each
interpolated_at m [] vs i e l = absurd (omega arith)
interpolated_at m (r ∷ rs) [] i e l = absurd (omega (arith, e))
interpolated_at m (r ∷ rs) (v ∷ vs) zero e l = refl
interpolated_at m (r ∷ rs) (v ∷ vs) (suc i) e l = interpolated_at m rs vs i (omega (arith, e)) (omega arith)

pub interpolated_long : (m : ℕ) (rs : List ModRow) (vs : List (List ℕ)) → length vs ≡ length rs → length (interpolated_each m rs vs) ≡ length rs
unfolding interpolated_each
interpolated_long m [] vs e = refl
interpolated_long m (r ∷ rs) [] e = absurd (omega (arith, e))
interpolated_long m (r ∷ rs) (v ∷ vs) e = ap suc (interpolated_long m rs vs (omega (arith, e)))

pub values_at : (m : ℕ) (rs : List ModRow) (vs : List (List ℕ)) (i : ℕ) → length vs ≡ length rs → i < length rs → get_or (values_each m rs vs) i [] ≡ values_of m (root_of (get_or rs i no_row)) (get_or vs i [])
unfolding values_each
values_at m [] vs i e l = absurd (omega arith)
values_at m (r ∷ rs) [] i e l = absurd (omega (arith, e))
values_at m (r ∷ rs) (v ∷ vs) zero e l = refl
values_at m (r ∷ rs) (v ∷ vs) (suc i) e l = values_at m rs vs i (omega (arith, e)) (omega arith)

pub values_long : (m : ℕ) (rs : List ModRow) (vs : List (List ℕ)) → length vs ≡ length rs → length (values_each m rs vs) ≡ length rs
unfolding values_each
values_long m [] vs e = refl
values_long m (r ∷ rs) [] e = absurd (omega (arith, e))
values_long m (r ∷ rs) (v ∷ vs) e = ap suc (values_long m rs vs (omega (arith, e)))

module _ (t : RingSetting) (n : ℕ) (b : Bool) where
  abbrev kept : List ModRow
  kept = rows_kept t n b

  abbrev at : ℕ → ModRow
  at i = get_or kept i no_row

  pub moduli_long : length (moduli_kept t n b) ≡ length kept
  moduli_long = length-map kept (λ (r : ModRow). r.q)

  pub modulus_at : (i d : ℕ) → i < length kept → get_or (moduli_kept t n b) i d ≡ (at i).q
  modulus_at i d l = get_or-map (λ (r : ModRow). r.q) kept i no_row d l

  module _ (rows : List ModuloRow) (H : AreHeld t n b rows) where
    pub rows_long : length rows ≡ length kept
    rows_long = sym (length-map rows (λ (r : ModuloRow). r.q)) ∙ ap length H.moduli ∙ moduli_long

    -- the modulus and the length of a row
    pub row_modulus : (i : ℕ) (row : ModuloRow) → i < length rows → row ≡ get_or rows i row → row.q ≡ (at i).q
    row_modulus i row l e = ap (λ (r : ModuloRow). r.q) e ∙ sym (get_or-map (λ (r : ModuloRow). r.q) rows i row 0 l) ∙ ap (λ qs. get_or qs i 0) H.moduli ∙ modulus_at i 0 (omega (arith, rows_long))

    pub entry_is : (i : ℕ) (row : ModuloRow) → i < length rows → row ≡ get_or rows i row → get_or (entries_in rows) i [] ≡ row.entries
    entry_is i row l e = get_or-map (λ (r : ModuloRow). r.entries) rows i row [] l ∙ ap (λ (r : ModuloRow). r.entries) (sym e)

    pub row_long : (i : ℕ) (row : ModuloRow) → i < length rows → row ≡ get_or rows i row → length row.entries ≡ degree t.moduli.m
    row_long i row l e = sym (ap length (entry_is i row l e)) ∙ (zip_at (λ q row. (length row ≡ degree t.moduli.m) × All (λ c. c < q) row) (moduli_kept t n b) (entries_in rows) i 0 [] H.entries (omega (arith, rows_long, moduli_long))).0

    pub entries_long : length (entries_in rows) ≡ length kept
    entries_long = length-map rows (λ (r : ModuloRow). r.entries) ∙ rows_long

    -- the same where the places past the end have the empty row
    pub modulus_or : (i : ℕ) → i < length rows → (get_or rows i empty_row).q ≡ (at i).q
    modulus_or i l = row_modulus i (get_or rows i empty_row) l (get_or_default rows i empty_row (get_or rows i empty_row) l)

    pub long_or : (i : ℕ) → i < length rows → length (get_or rows i empty_row).entries ≡ degree t.moduli.m
    long_or i l = row_long i (get_or rows i empty_row) l (get_or_default rows i empty_row (get_or rows i empty_row) l)

  -- the modulus of a line
  pub line_modulus : (i q : ℕ) (r : Roots) → r ≡ roots_of_row t.moduli.m (at i) → q ≡ r.q → i < length kept → q ≡ get_or (moduli_kept t n b) i 0
  line_modulus i q r e f l = f ∙ ap (λ (r : Roots). r.q) e ∙ sym (modulus_at i 0 l)

  -- the residues of whole coefficients
  pub small_at : (coeffs : List ℤ) (i q : ℕ) → i < length kept → q ≡ get_or (moduli_kept t n b) i 0 → row_of q coeffs ≡ get_or (rows_of (moduli_kept t n b) coeffs) i []
  small_at coeffs i q l e = ap (λ q. row_of q coeffs) e ∙ sym (get_or-map (λ q. row_of q coeffs) (moduli_kept t n b) i 0 [] (omega (arith, moduli_long)))

  pub small_long : (coeffs : List ℤ) → length (rows_of (moduli_kept t n b) coeffs) ≡ length kept
  small_long coeffs = length-map (moduli_kept t n b) (λ q. row_of q coeffs) ∙ moduli_long

  -- rows of residues that are given
  module _ (given : List (Vec ℕ Global)) (G : AreRows t.moduli.m (moduli_kept t n b) (map (λ list. list.items) given)) where
    pub given_long : length given ≡ length kept
    given_long = sym (length-map given (λ (list : Vec ℕ Global). list.items)) ∙ zip_long (λ q row. (length row ≡ degree t.moduli.m) × All (λ c. c < q) row) (moduli_kept t n b) (map (λ list. list.items) given) G ∙ moduli_long

    pub given_at : (i : ℕ) (list : Vec ℕ Global) → i < length given → list ≡ get_or given i list → get_or (map (λ (list : Vec ℕ Global). list.items) given) i [] ≡ list.items
    given_at i list l e = get_or-map (λ (list : Vec ℕ Global). list.items) given i list [] l ∙ ap (λ (list : Vec ℕ Global). list.items) (sym e)

    pub given_in : (i q : ℕ) (list : Vec ℕ Global) → i < length given → list ≡ get_or given i list → q ≡ get_or (moduli_kept t n b) i 0 → All (λ c. c < q) list.items
    given_in i q list l e f = subst (λ q. All (λ c. c < q) list.items) (sym f) (subst (All (λ c. c < get_or (moduli_kept t n b) i 0)) (given_at i list l e) (zip_at (λ q row. (length row ≡ degree t.moduli.m) × All (λ c. c < q) row) (moduli_kept t n b) (map (λ list. list.items) given) i 0 [] G (omega (arith, moduli_long, given_long))).1)
