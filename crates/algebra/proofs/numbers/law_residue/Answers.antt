use Rattle.algebra.proofs.WholeResidues.{residue_preserves}
use Rattle.algebra.proofs.numbers.law_residue.Goals as goal

pub returns : goal.returns
returns c = residue_preserves
