use Rattle.std.proofs.Common.{◌≡◌, ◌++◌, drop, map, option_map}
use Rattle.table_keys.specs.Keys.{generator_of}
use Rattle.table_keys.specs.Values.{each_of}
use Rattle.table_keys.proofs.keys.all_generators.Given as goal

abbrev pub invariant-loop-row : goal.invariant-loop-row
invariant-loop-row l =
    option_map (λ rest. l.pairs.items ++ rest) (each_of (generator_of l.m) (map (λ row. row.items) (drop l.row-index l.rows)))
    ≡ each_of (generator_of l.m) (map (λ row. row.items) l.rows)
