use Rattle.cyclotomic.proofs.NormLists.{coefficient_bounded}
use Rattle.cyclotomic.proofs.norm.law_norm_of_coefficient.Goals as goal

pub returns : goal.returns
returns c = coefficient_bounded
