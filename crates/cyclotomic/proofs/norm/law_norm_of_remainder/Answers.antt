use Rattle.cyclotomic.proofs.NormLists.{remainder_bounded}
use Rattle.cyclotomic.proofs.norm.law_norm_of_remainder.Goals as goal

pub returns : goal.returns
returns c = remainder_bounded
