use Rattle.std.proofs.Common.{◌≡◌, ◌+◌, None}
use Rattle.moduli_table.specs.First.{first_below}
use Rattle.moduli_table.specs.Search.{roots_by}
use Rattle.moduli_table.proofs.search.find_roots.Given as goal

abbrev pub invariant-loop-t : goal.invariant-loop-t
invariant-loop-t l = first_below l.t (λ t. roots_by l.m l.q (2 + t)) ≡ None
