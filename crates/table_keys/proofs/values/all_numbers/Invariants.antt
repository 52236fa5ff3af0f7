use Rattle.std.proofs.Common.{◌≡◌, ◌++◌, drop, map, option_map}
use Rattle.toml.specs.View.{view}
use Rattle.table_keys.specs.Values.{each_of, number_of}
use Rattle.table_keys.proofs.values.all_numbers.Given as goal

abbrev pub invariant-loop-value : goal.invariant-loop-value
invariant-loop-value l =
    option_map (λ rest. l.numbers.items ++ rest) (each_of number_of (map view (drop l.value-index l.values))) ≡ each_of number_of (map view l.values)
