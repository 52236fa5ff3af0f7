use Rattle.std.proofs.Common.{◌≡◌, drop, map}
use Rattle.table_keys.specs.Documents.{lengthen_from}
use Rattle.table_keys.proofs.moduli.lengthen.Given as goal

abbrev pub invariant-loop-j : goal.invariant-loop-j
invariant-loop-j l = lengthen_from l.j (map (λ row. row.items) (drop l.j l.rows)) ≡ lengthen_from 0 (map (λ row. row.items) l.rows)
