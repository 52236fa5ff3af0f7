use Rattle.cyclotomic.proofs.NormLists.{multiple_bounded}
use Rattle.cyclotomic.proofs.norm.law_norm_of_multiple.Goals as goal

pub returns : goal.returns
returns c = multiple_bounded
