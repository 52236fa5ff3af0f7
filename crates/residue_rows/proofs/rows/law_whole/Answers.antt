use Rattle.residue_rows.proofs.WholeRows.{whole_law}
use Rattle.residue_rows.proofs.rows.law_whole.Goals as goal

pub returns : goal.returns
returns c = whole_law
