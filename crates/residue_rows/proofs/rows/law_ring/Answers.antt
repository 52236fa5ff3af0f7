use Rattle.residue_rows.proofs.RowsRing.{rows_are_ring}
use Rattle.residue_rows.proofs.rows.law_ring.Goals as goal

pub returns : goal.returns
returns c = rows_are_ring
