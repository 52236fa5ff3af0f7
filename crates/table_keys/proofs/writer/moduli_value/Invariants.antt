use Rattle.std.proofs.Common.{◌≡◌, ◌++◌, drop, map}
use Rattle.toml.specs.View.{view}
use Rattle.table_keys.specs.Written.{numbers_data, row_words}
use Rattle.table_keys.proofs.writer.moduli_value.Given as goal

abbrev pub invariant-loop-modulus : goal.invariant-loop-modulus
invariant-loop-modulus l = map view l.values.items ++ map numbers_data (map row_words (drop l.modulus-index l.moduli)) ≡ map numbers_data (map row_words l.moduli)
