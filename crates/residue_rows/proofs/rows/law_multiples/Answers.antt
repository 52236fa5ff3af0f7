use Rattle.residue_rows.proofs.RowsResidues.{multiples_law}
use Rattle.residue_rows.proofs.rows.law_multiples.Goals as goal

pub returns : goal.returns
returns c = multiples_law
