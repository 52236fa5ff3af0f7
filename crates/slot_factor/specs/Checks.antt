-- The checks of the slots of a table, in their order.
use Rattle.std.specs.Prelude.{not, nat_lt, Option, Some, option_map, if◌then◌else◌}
use Rattle.hyper_cube.specs.Torus.{slot_count}
use Rattle.ext_field.specs.Checks.{dual_fault}
use Rattle.slot_laws.specs.Checks.{is_phi_factor, bad_slot, is_annihilated, is_complete}
use Rattle.slot_factor.specs.Packing.{Packing}
use Rattle.slot_factor.specs.declared.faults.SlotFault.{SlotFault}
use Rattle.slot_factor.specs.declared.faults.SlotFault.TheVariants.{NotDivisor, Idempotent, NotAnnihilated, NotComplete, Dual}

-- the first check that fails
unfoldable pub first_fault : Packing → Option SlotFault
first_fault s =
    if not (is_phi_factor s.field s.cube) then Some NotDivisor
    else (if nat_lt (bad_slot s.field s.cube) (slot_count s.cube) then Some (Idempotent (bad_slot s.field s.cube))
    else (if not (is_annihilated s.field s.cube) then Some NotAnnihilated
    else (if not (is_complete s.field s.cube) then Some NotComplete
    else option_map (λ at. Dual at.0 at.1) (dual_fault s.field s.dual))))
