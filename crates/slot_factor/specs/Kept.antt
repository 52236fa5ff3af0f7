-- What is kept with the slots.
use Rattle.std.specs.Prelude.{◌≡◌, ◌<◌, ◌≤◌, length, map}
use Rattle.mod_ring.specs.Zq.{modulus_of}
use Rattle.hyper_cube.specs.Torus.{slot_count, T_of, index}
use Rattle.hyper_cube.specs.Tables.{IsFilled}
use Rattle.slot_laws.specs.Slots.{inverse_modulo, eps}
use Rattle.slot_laws.specs.Checks.{IsPacking, residue_row}
use Rattle.slot_factor.specs.Packing.{Packing}
use Rattle.slot_factor.specs.Tables.{ArePowers}
use Rattle.slot_factor.specs.declared.slots.Slots.TheInside.{Inside}

abbrev pub packing_of : Inside → Packing
packing_of s = record { field = s.ext; cube = s.cube; dual = map (λ a. a) s.dual.items }

-- the table has passed its checks, and the tables are those of its slots
pub record IsKept (s : Inside) : Type 0 where
  pub packing : IsPacking s.ext s.cube
  pub same_m : s.cyclo ≡ s.cube.m
  pub same_q : modulus_of s.zq ≡ s.ext.p
  pub powers : ArePowers s.ext s.cube.m s.powers.items
  pub unit : s.unit.items ≡ residue_row s.ext s.cube (eps s.ext s.cube)
  pub some : 0 < length s.unit.items
  pub few : length s.unit.items ≤ 65536
  pub inverses : IsFilled (λ j. inverse_modulo s.cube.m (T_of s.cube (index s.cube.dimensions j))) (slot_count s.cube) s.inverses.items
