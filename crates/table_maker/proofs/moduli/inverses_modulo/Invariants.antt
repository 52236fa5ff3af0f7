use Rattle.std.proofs.Common.{◌≡◌, ◌++◌, drop, map}
use Rattle.moduli_table.specs.Search.{inverse_or_zero}
use Rattle.table_maker.proofs.moduli.inverses_modulo.Given as goal

abbrev pub invariant-loop-number : goal.invariant-loop-number
invariant-loop-number l = l.list.items ++ map (inverse_or_zero l.q) (drop l.number-index l.numbers) ≡ map (inverse_or_zero l.q) l.numbers
