use Rattle.cyclotomic.proofs.Substitution.{substitution_keeps}
use Rattle.cyclotomic.proofs.ring.law_substitution.Goals as goal

pub returns : goal.returns
returns c = substitution_keeps
