use Rattle.std.proofs.Common.{◌≡◌, map, take}
use Rattle.table_file.specs.Accepted.{row_of}
use Rattle.table_file.proofs.accepting.rows.Given as goal

abbrev pub invariant-loop-row : goal.invariant-loop-row
invariant-loop-row l = l.rows.items ≡ map row_of (take l.row-index l.documents)
