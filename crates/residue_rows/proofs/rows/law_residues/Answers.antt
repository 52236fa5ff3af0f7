use Rattle.residue_rows.proofs.RowsResidues.{residues_law}
use Rattle.residue_rows.proofs.rows.law_residues.Goals as goal

pub returns : goal.returns
returns c = residues_law
