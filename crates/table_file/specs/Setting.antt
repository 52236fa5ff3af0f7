-- What an accepted table sets.
use Rattle.std.specs.Prelude.{Option}
use Rattle.residue_rows.specs.Kept.{RingSetting}
use Rattle.scheme_laws.specs.Scheme.{SchemeSetting}
use Rattle.slot_factor.specs.Packing.{Packing}

-- the slots, and the ring with its moduli, which a plain table has not
pub record Setting : Type 0 where
  pub packing : Packing
  pub chain : Option RingSetting

-- the ring with the slots of the table, for ciphertexts
abbrev pub scheme_of : Setting → RingSetting → SchemeSetting
scheme_of s ring = record { ring = ring; field = s.packing.field; cube = s.packing.cube }
