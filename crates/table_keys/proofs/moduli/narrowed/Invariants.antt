use Rattle.std.proofs.Common.{◌≡◌, ◌++◌, drop}
use Rattle.table_keys.proofs.moduli.narrowed.Given as goal

abbrev pub invariant-loop-number : goal.invariant-loop-number
invariant-loop-number l = l.narrow.items ++ drop l.number-index l.numbers ≡ l.numbers
