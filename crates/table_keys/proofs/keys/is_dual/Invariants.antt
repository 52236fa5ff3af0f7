use Rattle.std.proofs.Common.{◌≡◌, drop, map}
use Rattle.std.specs.List.{list_all}
use Rattle.table_keys.specs.Keys.{is_dual_row}
use Rattle.table_keys.proofs.keys.is_dual.Given as goal

abbrev pub invariant-loop-row : goal.invariant-loop-row
invariant-loop-row l =
    list_all (is_dual_row l.p l.d) (map (λ row. row.items) (drop l.row-index l.rows)) ≡ list_all (is_dual_row l.p l.d) (map (λ row. row.items) l.rows)
