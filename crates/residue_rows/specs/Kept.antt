-- What contracts see of a polynomial that is kept by residues, and of the tables that it is kept with.
use Rattle.std.specs.Prelude.{◌≡◌, ℕ, ◌<◌, ◌≤◌, Bool, if◌then◌else◌, All, List, [], ◌∷◌, ◌++◌, length, map, take, sum}
use Rattle.algebra.specs.Ring.{Ops}
use Rattle.cyclotomic.specs.Cyclotomic.{degree}
use Rattle.moduli_table.specs.declared.rows.ModRow.{ModRow}
use Rattle.moduli_table.specs.Chain.{Chain}
use Rattle.moduli_table.specs.Checks.{omega_of}
use Rattle.moduli_table.specs.Accepted.{IsAccepted}
use Rattle.residue_rows.specs.Rows.{AreRows, R_each}
use Rattle.residue_rows.specs.Values.{Root, values_of, interpolated}

-- the moduli with their roots and inverses, the weight of a secret, and the sizes of the groups of digits
pub record RingSetting : Type 0 where
  pub moduli : Chain
  pub weight : ℕ
  pub digits : List ℕ

pub record IsSetting (t : RingSetting) : Type 0 where
  pub accepted : IsAccepted t.moduli
  pub weight_some : 1 ≤ t.weight
  pub weight_most : t.weight ≤ degree t.moduli.m
  pub digits_some : All (λ d. 0 < d) t.digits
  pub digits_sum : sum t.digits ≡ length t.moduli.chain

-- the first moduli of the chain, as many as given, with the special ones or without them
abbrev pub rows_kept : RingSetting → ℕ → Bool → List ModRow
rows_kept t chain_rows special = take chain_rows t.moduli.chain ++ (if special then t.moduli.special else [])

abbrev pub moduli_kept : RingSetting → ℕ → Bool → List ℕ
moduli_kept t chain_rows special = map (λ r. r.q) (rows_kept t chain_rows special)

-- a polynomial: its tables, how many moduli of the chain it has, whether it has the special ones, and a row of n residues for each
pub record Residues : Type 0 where
  pub tables : RingSetting
  pub chain_rows : ℕ
  pub special : Bool
  pub rows : List (List ℕ)

module _ (a : Residues) where
  abbrev pub moduli_of : List ℕ
  moduli_of = moduli_kept a.tables a.chain_rows a.special

  -- R modulo each of its moduli
  abbrev pub ring_of : Ops (List (List ℕ))
  ring_of = R_each a.tables.moduli.m moduli_of

  pub record IsKept : Type 0 where
    pub setting : IsSetting a.tables
    pub chain_fits : a.chain_rows ≤ length a.tables.moduli.chain
    pub rows_in : AreRows a.tables.moduli.m moduli_of a.rows

  -- the same moduli with other rows
  abbrev pub with_rows : List (List ℕ) → Residues
  with_rows rows = record { tables = a.tables; chain_rows = a.chain_rows; special = a.special; rows = rows }

-- the same tables and the same moduli
pub record AreAlike (a b : Residues) : Type 0 where
  pub tables : b.tables ≡ a.tables
  pub chain_rows : b.chain_rows ≡ a.chain_rows
  pub special : b.special ≡ a.special

-- the root of an accepted row, at whose powers values are taken
abbrev pub root_of : ModRow → Root
root_of r = record { q = r.q; omega = omega_of r.q r.zeta }

-- at each modulus the values at the units
unfoldable pub values_each : ℕ → List ModRow → List (List ℕ) → List (List ℕ)
values_each m [] rows = []
values_each m (r ∷ rs) [] = []
values_each m (r ∷ rs) (row ∷ rows) = values_of m (root_of r) row ∷ values_each m rs rows

-- at each modulus the residues that have the given values at the units
unfoldable pub interpolated_each : ℕ → List ModRow → List (List ℕ) → List (List ℕ)
interpolated_each m [] values = []
interpolated_each m (r ∷ rs) [] = []
interpolated_each m (r ∷ rs) (v ∷ values) = interpolated m (root_of r) v ∷ interpolated_each m rs values

-- the values of a polynomial: for each modulus, for each unit j in ascending order, the value at omega^j
abbrev pub polynomial_values : Residues → List (List ℕ)
polynomial_values a = values_each a.tables.moduli.m (rows_kept a.tables a.chain_rows a.special) a.rows
