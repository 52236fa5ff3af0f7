use Rattle.std.proofs.Common.{◌≡◌, ◌+◌, ◌≤◌, ◌++◌, ◌∷◌, drop, map}
use Rattle.std.specs.List.{flat_map}
use Rattle.slot_program.specs.Printed.{item_text, onto_run, runs_of}
use Rattle.slot_program.proofs.printing.put_items.Given as goal

abbrev pub invariant-loop-next : goal.invariant-loop-next
invariant-loop-next l =
    (l.out.items ++ flat_map (λ run. 32 ∷ item_text run) (onto_run l.repeats l.element (runs_of (map (λ elem. elem) (drop l.next-index l.rest))))
    ≡ l.fn.out.items ++ flat_map (λ run. 32 ∷ item_text run) (runs_of (map (λ elem. elem) l.elems)))
    × (l.repeats ≤ l.next-index + 1)
