-- Polynomials as they are written, value by value and row by row.
use Rattle.std.proofs.Common.{◌≡◌, ℕ, ◌+◌, ◌<◌, ◌≤◌, List, [], ◌∷◌, ◌++◌, length, get_or, take, false, refl, sym, ap, ◌∙◌, arith}
use Rattle.std.specs.List.{flat_map}
use Rattle.std.specs.Int.{w64}
use Rattle.std.proofs.lemmas.List.{append-nil, flat_map_more, length-take-le, take_more, take_all}
use Rattle.std.proofs.Math.ListN.{length-map}
use Rattle.moduli_table.specs.declared.rows.ModRow.{ModRow}
use Rattle.cyclotomic.specs.Cyclotomic.{degree}
use Rattle.residue_rows.specs.Rows.{AreRows}
use Rattle.residue_rows.specs.Kept.{Residues, IsKept, rows_kept, moduli_kept, moduli_of, values_each, polynomial_values}
use Rattle.residue_rows.proofs.ModuliKept.{roots_are}
use Rattle.residue_rows.proofs.ValuesEach.{values_in}
use Rattle.he_files.specs.Form.{number_bytes, several, each_spelled}
use Rattle.he_files.specs.Polynomial.{residue, polynomial}

-- one element more is written
pub more_written : {X : Type 0} (f : X → List ℕ) (old : List ℕ) (xs : List X) (i : ℕ) (d : X) → i < length xs → (old ++ flat_map f (take i xs)) ++ f (get_or xs i d) ≡ old ++ flat_map f (take (i + 1) xs)
more_written {X} f old xs i d lt = flat_map_more f old (take i xs) (get_or xs i d) ∙ ap (λ (ys : List X). old ++ flat_map f ys) (sym (take_more xs i d lt))

-- all of them are
pub all_written : {X : Type 0} (f : X → List ℕ) (old : List ℕ) (xs : List X) (i : ℕ) → length xs ≤ i → old ++ flat_map f (take i xs) ≡ old ++ flat_map f xs
all_written {X} f old xs i le = ap (λ (ys : List X). old ++ flat_map f ys) (take_all i xs le)

-- the bytes of a row
abbrev pub row_bytes : List ℕ → List ℕ
row_bytes row = flat_map (number_bytes w64) row

-- rows for some moduli are written one after another
rows_spelled : (n : ℕ) (qs : List ℕ) (rows : List (List ℕ)) → length rows ≡ length qs → each_spelled (λ q. several n (residue q)) qs rows ≡ flat_map row_bytes rows
unfolding each_spelled
rows_spelled n [] [] long = refl
rows_spelled n [] (row ∷ rows) long = absurd (omega arith)
rows_spelled n (q ∷ qs) [] long = absurd (omega arith)
rows_spelled n (q ∷ qs) (row ∷ rows) long = ap (λ (t : List ℕ). row_bytes row ++ t) (rows_spelled n qs rows (omega (arith, long)))

rows_long : (m : ℕ) (qs : List ℕ) (rows : List (List ℕ)) → AreRows m qs rows → length rows ≡ length qs
rows_long m [] [] h = refl
rows_long m [] (row ∷ rows) h = absurd h
rows_long m (q ∷ qs) [] h = absurd h
rows_long m (q ∷ qs) (row ∷ rows) h = omega (arith, rows_long m qs rows h.1)

row_long : (m : ℕ) (qs : List ℕ) (rows : List (List ℕ)) (i : ℕ) → AreRows m qs rows → i < length rows → length (get_or rows i []) ≡ degree m
row_long m qs [] i h lt = absurd (omega arith)
row_long m [] (row ∷ rows) i h lt = absurd h
row_long m (q ∷ qs) (row ∷ rows) ℕ.zero h lt = h.0.0
row_long m (q ∷ qs) (row ∷ rows) (ℕ.suc i) h lt = row_long m qs rows i h.1 (omega arith)

module _ (a : Residues) (K : IsKept a) where
  values_fit : AreRows a.tables.moduli.m (moduli_of a) (polynomial_values a)
  values_fit = values_in a.tables.moduli.m (rows_kept a.tables a.chain_rows a.special) (roots_are a.tables K.setting a.chain_rows a.special K.chain_fits) a.rows K.rows_in

  -- as many rows of values as rows of residues, each of n values
  pub values_long : length (polynomial_values a) ≡ length a.rows
  values_long = rows_long a.tables.moduli.m (moduli_of a) (polynomial_values a) values_fit ∙ sym (rows_long a.tables.moduli.m (moduli_of a) a.rows K.rows_in)

  pub value_row_long : (i : ℕ) → i < length a.rows → length (get_or (polynomial_values a) i []) ≡ degree a.tables.moduli.m
  value_row_long i lt = row_long a.tables.moduli.m (moduli_of a) (polynomial_values a) i values_fit (omega (arith, values_long))

  -- a polynomial without special rows is spelled by its rows of values
  pub polynomial_text : a.special ≡ false → (polynomial a.tables a.chain_rows).spelled a.rows ≡ flat_map row_bytes (polynomial_values a)
  polynomial_text none =
      let n = degree a.tables.moduli.m in
      ap (λ b. each_spelled (λ q. several n (residue q)) (moduli_kept a.tables a.chain_rows b) (values_each a.tables.moduli.m (rows_kept a.tables a.chain_rows b) a.rows)) (sym none)
      ∙ rows_spelled n (moduli_of a) (polynomial_values a) (rows_long a.tables.moduli.m (moduli_of a) (polynomial_values a) values_fit)

  -- it has a row for each of its moduli of the chain
  pub rows_of_chain : a.special ≡ false → length a.rows ≡ a.chain_rows
  rows_of_chain none =
      rows_long a.tables.moduli.m (moduli_of a) a.rows K.rows_in
      ∙ ap (λ b. length (moduli_kept a.tables a.chain_rows b)) none
      ∙ length-map (take a.chain_rows a.tables.moduli.chain ++ []) (λ (r : ModRow). r.q)
      ∙ ap length (append-nil (take a.chain_rows a.tables.moduli.chain))
      ∙ length-take-le a.chain_rows a.tables.moduli.chain K.chain_fits
