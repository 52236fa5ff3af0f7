-- The rows of a polynomial modulo all moduli of a table.
use Rattle.std.proofs.Common.{◌≡◌, ℕ, Bool, true, subst}
use Rattle.residue_rows.specs.Rows.{AreRows}
use Rattle.residue_rows.specs.Kept.{RingSetting, Residues, IsKept, moduli_kept}

pub rows_in : (t : RingSetting) (a : Residues) → IsKept a → a.tables ≡ t → a.chain_rows ≡ 2 → a.special ≡ true → AreRows t.moduli.m (moduli_kept t 2 true) a.rows
rows_in t a K e f g = subst (λ (t : RingSetting). AreRows t.moduli.m (moduli_kept t 2 true) a.rows) e (subst (λ (n : ℕ). AreRows a.tables.moduli.m (moduli_kept a.tables n true) a.rows) f (subst (λ (b : Bool). AreRows a.tables.moduli.m (moduli_kept a.tables a.chain_rows b) a.rows) g K.rows_in))
