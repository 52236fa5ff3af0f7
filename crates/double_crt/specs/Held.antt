-- A polynomial that is held by its values at the units.
use Rattle.std.specs.Prelude.{◌≡◌, ℕ, ◌≤◌, Bool, List, length, map}
use Rattle.residue_rows.specs.Rows.{AreRows}
use Rattle.residue_rows.specs.Kept.{RingSetting, IsSetting, Residues, rows_kept, moduli_kept, interpolated_each}
use Rattle.double_crt.specs.ModuloRows.{ModuloRow}

abbrev pub moduli_in : List ModuloRow → List ℕ
moduli_in rows = map (λ row. row.q) rows

abbrev pub entries_in : List ModuloRow → List (List ℕ)
entries_in rows = map (λ row. row.entries) rows

-- rows of n residues, one for each modulus that is kept
pub record AreHeld (t : RingSetting) (chain_rows : ℕ) (special : Bool) (rows : List ModuloRow) : Type 0 where
  pub moduli : moduli_in rows ≡ moduli_kept t chain_rows special
  pub entries : AreRows t.moduli.m (moduli_kept t chain_rows special) (entries_in rows)

-- what holds of the fields
pub record IsHeld (t : RingSetting) (chain_rows : ℕ) (special : Bool) (rows : List ModuloRow) : Type 0 where
  pub setting : IsSetting t
  pub fits : chain_rows ≤ length t.moduli.chain
  pub held : AreHeld t chain_rows special rows

-- the polynomial with these values at the units
abbrev pub polynomial_of : RingSetting → ℕ → Bool → List ModuloRow → Residues
polynomial_of t chain_rows special rows = record {
  tables = t;
  chain_rows = chain_rows;
  special = special;
  rows = interpolated_each t.moduli.m (rows_kept t chain_rows special) (entries_in rows);
}
