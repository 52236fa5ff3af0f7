use Rattle.cyclotomic.proofs.Substitution.{substitutions_compose}
use Rattle.cyclotomic.proofs.ring.law_substitutions_compose.Goals as goal

pub returns : goal.returns
returns c = substitutions_compose
