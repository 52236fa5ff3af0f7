use Rattle.residue_rows.proofs.WholeRows.{rows_determine}
use Rattle.residue_rows.proofs.rows.law_rows_determine.Goals as goal

pub returns : goal.returns
returns c = rows_determine
