use Rattle.std.proofs.Common.{◌≡◌, ◌++◌, drop, map}
use Rattle.toml.specs.View.{view}
use Rattle.table_keys.specs.Written.{numbers_data, pair_words}
use Rattle.table_keys.proofs.writer.generators_value.Given as goal

abbrev pub invariant-loop-generator : goal.invariant-loop-generator
invariant-loop-generator l = map view l.values.items ++ map numbers_data (map pair_words (drop l.generator-index l.generators)) ≡ map numbers_data (map pair_words l.generators)
