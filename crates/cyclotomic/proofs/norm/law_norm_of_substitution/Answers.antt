use Rattle.cyclotomic.proofs.NormLists.{substitution_bounded}
use Rattle.cyclotomic.proofs.norm.law_norm_of_substitution.Goals as goal

pub returns : goal.returns
returns c = substitution_bounded
