-- What contracts see of a table.
use Rattle.std.specs.Prelude.{Option, option_map}
use Rattle.cipher_core.specs.declared.schemes.Scheme.{Scheme}
use Rattle.residue_rows.specs.Kept.{RingSetting}
use Rattle.table_file.specs.Setting.{Setting}
use Rattle.table_file.specs.declared.tables.Table.{Table}

abbrev pub ring_of : Option Scheme → Option RingSetting
ring_of scheme = option_map (λ s. s.tables.value) scheme

abbrev pub setting_of : Table → Setting
setting_of t = record { packing = t.slots.value; chain = ring_of t.scheme }
