-- The values of polynomials kept by residues, modulus by modulus.
use Rattle.std.specs.Prelude.{◌≡◌, ℕ, All, List, [], ◌∷◌, map, refl}
use Rattle.std.proofs.Common.{sym, ◌∙◌, ap, ap₂, subst}
use Rattle.std.proofs.lemmas.List.Elements.{All-head, All-tail}
use Rattle.moduli_table.specs.declared.rows.ModRow.{ModRow}
use Rattle.residue_rows.specs.Rows.{AreRows}
use Rattle.residue_rows.specs.Values.{values_of}
use Rattle.residue_rows.specs.ValueLaws.{IsAcceptedRoot}
use Rattle.residue_rows.specs.Kept.{rows_kept, root_of, Residues, IsKept, with_rows, AreAlike, values_each, polynomial_values}
use Rattle.residue_rows.specs.KeptLaws.{ValuesDetermineLaw}
use Rattle.residue_rows.proofs.ValuesMean.{determined}
use Rattle.residue_rows.proofs.ModuliKept.{roots_are}

-- the moduli of rows, and their roots
abbrev pub moduli_of_rows : List ModRow → List ℕ
moduli_of_rows rs = map (λ r. r.q) rs

abbrev pub AreRoots : ℕ → List ModRow → Type 0
AreRoots m rs = All (λ r. IsAcceptedRoot m (root_of r)) rs

module _ (m : ℕ) where
  -- the values at all moduli determine the rows
  pub each_determined : (rs : List ModRow) → AreRoots m rs → (a b : List (List ℕ)) → AreRows m (moduli_of_rows rs) a → AreRows m (moduli_of_rows rs) b → values_each m rs a ≡ values_each m rs b → a ≡ b
  unfolding values_each
  each_determined [] A [] [] h k e = refl
  each_determined [] A [] (y ∷ b) h k e = absurd k
  each_determined [] A (x ∷ a) b h k e = absurd h
  each_determined (r ∷ rs) A [] b h k e = absurd h
  each_determined (r ∷ rs) A (x ∷ a) [] h k e = absurd k
  each_determined (r ∷ rs) A (x ∷ a) (y ∷ b) h k e = ap₂ (λ x a. x ∷ a) (determined m (root_of r) (All-head (λ r. IsAcceptedRoot m (root_of r)) r rs A) x y h.0 k.0 (head e)) (each_determined rs (All-tail (λ r. IsAcceptedRoot m (root_of r)) r rs A) a b h.1 k.1 (rest e))
    where
      head : values_of m (root_of r) x ∷ values_each m rs a ≡ values_of m (root_of r) y ∷ values_each m rs b → values_of m (root_of r) x ≡ values_of m (root_of r) y
      head e = cc

      rest : values_of m (root_of r) x ∷ values_each m rs a ≡ values_of m (root_of r) y ∷ values_each m rs b → values_each m rs a ≡ values_each m rs b
      rest e = cc

-- what is alike has the same tables and moduli
alike_is : (a b : Residues) → AreAlike a b → b ≡ with_rows a b.rows
alike_is a b s = ap (λ t. record { tables = t; chain_rows = b.chain_rows; special = b.special; rows = b.rows }) s.tables ∙ ap₂ (λ n s. record { tables = a.tables; chain_rows = n; special = s; rows = b.rows }) s.chain_rows s.special

pub values_determine : ValuesDetermineLaw
values_determine a b h k s e = ap (with_rows a) same ∙ sym (alike_is a b s)
  where
    other : IsKept (with_rows a b.rows)
    other = subst IsKept (alike_is a b s) k

    same : a.rows ≡ b.rows
    same = each_determined a.tables.moduli.m (rows_kept a.tables a.chain_rows a.special) (roots_are a.tables h.setting a.chain_rows a.special h.chain_fits) a.rows b.rows h.rows_in other.rows_in (e ∙ ap polynomial_values (alike_is a b s))
