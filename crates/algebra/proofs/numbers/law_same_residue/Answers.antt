use Rattle.algebra.proofs.WholeResidues.{same_residue, same_modulo}
use Rattle.algebra.proofs.numbers.law_same_residue.Goals as goal

pub returns : goal.returns
returns c = λ q p a b. (same_residue q p a b, same_modulo q p a b)
