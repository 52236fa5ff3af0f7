use Rattle.std.proofs.Common.{◌≡◌, ◌++◌, drop, map}
use Rattle.toml.specs.View.{view}
use Rattle.table_keys.specs.Written.{number_data}
use Rattle.table_keys.proofs.writer.digits_value.Given as goal

abbrev pub invariant-loop-size : goal.invariant-loop-size
invariant-loop-size l = map view l.values.items ++ map number_data (drop l.size-index l.digits) ≡ map number_data l.digits
