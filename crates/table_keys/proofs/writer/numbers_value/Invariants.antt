use Rattle.std.proofs.Common.{◌≡◌, ◌++◌, drop, map}
use Rattle.toml.specs.View.{view}
use Rattle.table_keys.specs.Written.{number_data}
use Rattle.table_keys.proofs.writer.numbers_value.Given as goal

abbrev pub invariant-loop-number : goal.invariant-loop-number
invariant-loop-number l = map view l.values.items ++ map number_data (drop l.number-index l.numbers) ≡ map number_data l.numbers
