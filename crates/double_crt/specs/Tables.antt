-- What the tables of a ring hold.
use Rattle.std.specs.Prelude.{◌≡◌, ◌++◌, map}
use Rattle.algebra.specs.Divisor.{units}
use Rattle.mixed_radix.specs.Basis.{IsBasis}
use Rattle.residue_rows.specs.Kept.{RingSetting, IsSetting}
use Rattle.double_crt.specs.Bases.{chain_basis, special_basis}
use Rattle.double_crt.specs.Places.{ArePlaces}
use Rattle.double_crt.specs.Roots.{roots_of_row}
use Rattle.double_crt.specs.declared.tables.RingTables.TheInside.{Inside}

abbrev pub setting_of : Inside → RingSetting
setting_of s = record { moduli = s.moduli; weight = s.weight; digits = s.groups.items }

pub record HasTables (s : Inside) : Type 0 where
  pub setting : IsSetting (setting_of s)
  pub same_m : s.cyclo ≡ s.moduli.m
  pub same_p : s.p ≡ s.moduli.p
  pub units : s.unit_list.items ≡ units s.moduli.m
  pub places : ArePlaces s.moduli.m s.places.items
  pub lines : s.lines.items ≡ map (roots_of_row s.moduli.m) (s.moduli.chain ++ s.moduli.special)
  pub chain : s.chain_radix ≡ chain_basis (setting_of s)
  pub chain_is : IsBasis s.chain_radix
  pub special : s.special_radix ≡ special_basis (setting_of s)
  pub special_is : IsBasis s.special_radix
