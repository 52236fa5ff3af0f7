-- What is said of the moduli of accepted tables, and of the values of polynomials kept by residues.
use Rattle.std.specs.Prelude.{◌≡◌, ℕ, ◌%◌, ◌^◌, ◌<◌, ◌≤◌, Bool, All, length}
use Rattle.algebra.specs.Whole.{AreInvertible}
use Rattle.residue_rows.specs.ValueLaws.{IsAcceptedRoot}
use Rattle.residue_rows.specs.Kept.{RingSetting, IsSetting, rows_kept, moduli_kept, root_of, Residues, IsKept, AreAlike, polynomial_values}

-- the moduli are odd, in range, and each has an inverse modulo each later one; their roots are accepted
pub record AreModuli (t : RingSetting) (chain_rows : ℕ) (special : Bool) : Type 0 where
  pub odd : All (λ q. q % 2 ≡ 1) (moduli_kept t chain_rows special)
  pub some : All (λ q. 0 < q) (moduli_kept t chain_rows special)
  pub range : All (λ q. (3 ≤ q) × (q < 2 ^ 62)) (moduli_kept t chain_rows special)
  pub invertible : AreInvertible (moduli_kept t chain_rows special)
  pub roots : All (λ r. IsAcceptedRoot t.moduli.m (root_of r)) (rows_kept t chain_rows special)

abbrev pub ModuliLaw : Type 0
ModuliLaw = (t : RingSetting) (chain_rows : ℕ) (special : Bool) → IsSetting t → chain_rows ≤ length t.moduli.chain → AreModuli t chain_rows special

-- the values determine a polynomial
abbrev pub ValuesDetermineLaw : Type 0
ValuesDetermineLaw = (a b : Residues) → IsKept a → IsKept b → AreAlike a b → polynomial_values a ≡ polynomial_values b → a ≡ b
