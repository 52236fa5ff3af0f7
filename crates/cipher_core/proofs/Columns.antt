-- The residues of one coefficient, from rows.
use Rattle.std.proofs.Common.{◌≡◌, ℕ, ◌<◌, List, [], ◌∷◌, map, length, get_or, sym, ap, ◌∙◌, arith}
use Rattle.std.specs.Prelude.{ℤ, pos, Vec}
use Rattle.std.specs.List.{All, AllZip}
use Rattle.std.specs.declared.alloc.Global.{Global}
use Rattle.std.proofs.lemmas.List.{get_or_default, get_or-map, length-map}
use Rattle.std.proofs.lemmas.List.Elements.{All-cons}
use Rattle.algebra.specs.Whole.{residue}
use Rattle.cyclotomic.specs.Cyclotomic.{degree}
use Rattle.residue_rows.specs.Rows.{AreRows, rows_of}
use Rattle.residue_rows.specs.Whole.{residues_at}

abbrev pub items : Vec ℕ Global → List ℕ
items v = v.items

-- each row has the coefficient
pub rows_inside : (m : ℕ) (qs : List ℕ) (rows : List (Vec ℕ Global)) (i : ℕ) → AreRows m qs (map items rows) → i < degree m → All (λ (r : Vec ℕ Global). i < length r.items) rows
rows_inside m [] [] i h l = λ k d none. absurd (omega (arith, none))
rows_inside m [] (r ∷ rows) i h l = absurd h
rows_inside m (q ∷ qs) [] i h l = absurd h
rows_inside m (q ∷ qs) (r ∷ rows) i h l = All-cons (λ (r : Vec ℕ Global). i < length r.items) r rows (omega (arith, l, h.0.0)) (rows_inside m qs rows i h.1 l)

-- its residues are below their moduli
pub column_below : (m : ℕ) (qs : List ℕ) (rows : List (List ℕ)) (i : ℕ) → AreRows m qs rows → i < degree m → AllZip (λ q r. r < q) qs (residues_at i rows)
column_below m [] [] i h l = tt
column_below m [] (row ∷ rows) i h l = absurd h
column_below m (q ∷ qs) [] i h l = absurd h
column_below m (q ∷ qs) (row ∷ rows) i h l = (h.0.1 i 0 (omega (arith, l, h.0.0)), column_below m qs rows i h.1 l)

-- and those of a whole coefficient, where the rows are of a whole polynomial
pub column_of : (qs : List ℕ) (a : List ℤ) (i : ℕ) → i < length a → AllZip (λ q r. residue q (get_or a i (pos 0)) ≡ r) qs (residues_at i (rows_of qs a))
column_of [] a i l = tt
column_of (q ∷ qs) a i l = (sym (get_or-map (residue q) a i (pos 0) 0 l), column_of qs a i l)

-- the residues of a coefficient in rows of code
abbrev pub column : ℕ → List (Vec ℕ Global) → List ℕ
column place rows = residues_at place (map items rows)

pub length-column : (place : ℕ) (rows : List (Vec ℕ Global)) → length (column place rows) ≡ length rows
length-column place rows = length-map (map items rows) (λ row. get_or row place 0) ∙ length-map rows items

-- one of them
pub column_at : (rows : List (Vec ℕ Global)) (place j x : ℕ) (r : Vec ℕ Global) → j < length rows → r ≡ get_or rows j r → place < length (items (get_or rows j r)) → x ≡ get_or r.items place x → x ≡ get_or (column place rows) j 0
column_at rows place j x r l is inside x_is =
    let f : List ℕ → ℕ = λ row. get_or row place 0 in
    let read : x ≡ get_or r.items place 0 = x_is ∙ get_or_default r.items place x 0 (omega (arith, inside, ap (λ v. length (items v)) is)) in
    read ∙ sym (get_or-map f (map items rows) j [] 0 (omega (arith, l, length-map rows items)) ∙ ap f (get_or-map items rows j r [] l ∙ ap items (sym is)))
