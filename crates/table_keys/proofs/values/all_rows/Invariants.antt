use Rattle.std.proofs.Common.{◌≡◌, ◌++◌, drop, map, option_map}
use Rattle.toml.specs.View.{view}
use Rattle.table_keys.specs.Values.{each_of, numbers_of}
use Rattle.table_keys.proofs.values.all_rows.Given as goal

abbrev pub invariant-loop-value : goal.invariant-loop-value
invariant-loop-value l =
    option_map (λ rest. map (λ row. row.items) l.rows.items ++ rest) (each_of numbers_of (map view (drop l.value-index l.values)))
    ≡ each_of numbers_of (map view l.values)
