use Rattle.cyclotomic.proofs.NormLists.{sum_bounded}
use Rattle.cyclotomic.proofs.norm.law_norm_of_sum.Goals as goal

pub returns : goal.returns
returns c = sum_bounded
