-- Which texts are tables that are accepted, and what they set: the checks in their order.
use Rattle.std.specs.Prelude.{ℕ, ◌-◌, not, nat_le, List, length, map, Option, None, Some, Result, Ok}
use Rattle.algebra.specs.Divisor.{number_of_units}
use Rattle.cyclo_poly.specs.Tall.{is_tall}
use Rattle.ext_field.specs.Element.{Extension}
use Rattle.ext_field.specs.Checks.{frobenius_holds}
use Rattle.hyper_cube.specs.Torus.{Torus}
use Rattle.hyper_cube.specs.Tables.{torus}
use Rattle.hyper_cube.specs.Checks.{first_fault as cube_fault}
use Rattle.moduli_table.specs.Chain.{Chain}
use Rattle.moduli_table.specs.Checks.{first_fault as moduli_fault}
use Rattle.moduli_table.specs.declared.rows.ModRow.{ModRow}
use Rattle.residue_rows.specs.Kept.{RingSetting}
use Rattle.slot_factor.specs.Packing.{Packing}
use Rattle.slot_factor.specs.Checks.{first_fault as slots_fault}
use Rattle.table_keys.specs.Documents.{Document, Moduli, document_of}
use Rattle.table_keys.specs.declared.documents.RowDocument.{RowDocument}
use Rattle.table_file.specs.declared.faults.TableFault.{TableFault}
use Rattle.table_file.specs.declared.faults.TableFault.TheVariants.{Weight, Tall, NotFrobenius}
use Rattle.table_file.specs.Faults.{◌>>=◌, passed, unless, or_fault, of_document, of_cube, of_slots, of_moduli}
use Rattle.table_file.specs.Setting.{Setting}

module _ (t : Document) where
  abbrev pub field_of : Extension
  field_of = record { p = t.p; factor = t.factor }

  abbrev pub cube_of : Torus
  cube_of = torus t.m t.p (length t.factor - 1) t.generators

  abbrev pub packing_of : Packing
  packing_of = record { field = field_of; cube = cube_of; dual = t.dual }

abbrev pub row_of : RowDocument → ModRow
row_of row = record { q = row.q; zeta = row.zeta; psi = row.psi; plain_inverse = row.plain_inverse }

abbrev pub chain_of : ℕ → ℕ → Moduli → Chain
chain_of m p k = record { m = m; p = p; chain = map row_of k.chain; special = map row_of k.special; inverse = k.inverse }

-- the ring with these moduli
abbrev pub ring_for : ℕ → ℕ → Moduli → RingSetting
ring_for m p k = record { moduli = chain_of m p k; weight = k.weight; digits = k.digits }

-- the weight is at most the degree, which is the number of units
unfoldable pub weighed : ℕ → Option Moduli → Result Unit TableFault
weighed m None = Ok tt
weighed m (Some k) = passed (nat_le k.weight (number_of_units m)) Weight

-- the ring with the moduli, which are to pass their checks
unfoldable pub chained : ℕ → ℕ → Option Moduli → Result (Option RingSetting) TableFault
chained m p None = Ok None
chained m p (Some k) = do
  right ← unless of_moduli (moduli_fault (chain_of m p k))
  Ok (Some (ring_for m p k))

-- the checks of the weight, the torus, the size of the coefficients on the way to Phi_m, the extension and the slots
unfoldable pub passing : Document → Result Unit TableFault
passing t = do
  light ← weighed t.m t.moduli
  cubed ← unless of_cube (cube_fault (cube_of t))
  small ← passed (not (is_tall t.m)) Tall
  framed ← passed (frobenius_holds (field_of t)) NotFrobenius
  unless of_slots (slots_fault (packing_of t))

-- the checks that a table of the right shape is to pass: these, and then those of the moduli
unfoldable pub accepted : Document → Result Setting TableFault
accepted t = do
  sound ← passing t
  chain ← chained t.m t.p t.moduli
  Ok (record { packing = packing_of t; chain = chain })

-- what the table of a text sets, or its first fault
unfoldable pub table_of : List ℕ → Result Setting TableFault
table_of text = or_fault of_document (document_of text) >>= accepted
