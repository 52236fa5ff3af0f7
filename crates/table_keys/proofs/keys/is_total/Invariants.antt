use Rattle.std.proofs.Common.{◌≡◌, ◌+◌, sum, take}
use Rattle.table_keys.proofs.keys.is_total.Given as goal

abbrev pub invariant-loop-size : goal.invariant-loop-size
invariant-loop-size l = l.left + sum (take l.size-index l.sizes) ≡ l.total
