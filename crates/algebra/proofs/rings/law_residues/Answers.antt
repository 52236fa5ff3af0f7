use Rattle.algebra.proofs.Residues.{residue_laws}
use Rattle.algebra.proofs.rings.law_residues.Goals as goal

pub returns : goal.returns
returns c = residue_laws
