use Rattle.cyclotomic.proofs.Substitution.{substitution_by_residue}
use Rattle.cyclotomic.proofs.ring.law_substitution_by_residue.Goals as goal

pub returns : goal.returns
returns c = substitution_by_residue
