use Rattle.std.proofs.Common.{◌≡◌, ◌++◌, drop, map}
use Rattle.toml.specs.View.{view}
use Rattle.table_keys.specs.Written.{numbers_data}
use Rattle.table_keys.proofs.writer.rows_value.Given as goal

abbrev pub invariant-loop-row : goal.invariant-loop-row
invariant-loop-row l = map view l.values.items ++ map numbers_data (map (λ row. row.items) (drop l.row-index l.rows)) ≡ map numbers_data (map (λ row. row.items) l.rows)
