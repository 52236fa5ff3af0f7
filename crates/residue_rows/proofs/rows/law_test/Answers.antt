use Rattle.residue_rows.proofs.RowsRing.{test_decides}
use Rattle.residue_rows.proofs.rows.law_test.Goals as goal

pub returns : goal.returns
returns c = test_decides
