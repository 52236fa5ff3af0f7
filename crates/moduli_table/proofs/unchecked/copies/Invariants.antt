use Rattle.std.proofs.Common.{◌≡◌, map, take}
use Rattle.moduli_table.proofs.unchecked.copies.Given as goal

abbrev pub invariant-loop-list : goal.invariant-loop-list
invariant-loop-list l =
    map (λ list. list.items) l.all.items ≡ map (λ list. list.items) (take l.list-index l.lists)
