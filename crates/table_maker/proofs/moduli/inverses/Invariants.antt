use Rattle.std.proofs.Common.{◌≡◌, map, take, slice_index}
use Rattle.algebra.specs.Whole.{below}
use Rattle.moduli_table.specs.Search.{inverse_or_zero}
use Rattle.table_maker.proofs.moduli.inverses.Given as goal

abbrev pub invariant-loop-j : goal.invariant-loop-j
invariant-loop-j l = map (λ list. list.items) l.lists.items ≡ map (λ j. map (inverse_or_zero (slice_index l.moduli j)) (take j l.moduli)) (below l.j)
