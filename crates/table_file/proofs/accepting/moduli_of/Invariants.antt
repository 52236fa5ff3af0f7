use Rattle.std.proofs.Common.{◌≡◌, map, take}
use Rattle.table_file.proofs.accepting.moduli_of.Given as goal

abbrev pub invariant-loop-row : goal.invariant-loop-row
invariant-loop-row l = l.moduli.items ≡ map (λ row. row.q) (take l.row-index l.rows)
