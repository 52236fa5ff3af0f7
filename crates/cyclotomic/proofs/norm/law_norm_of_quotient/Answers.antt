use Rattle.cyclotomic.proofs.NormLists.{quotient_bounded}
use Rattle.cyclotomic.proofs.norm.law_norm_of_quotient.Goals as goal

pub returns : goal.returns
returns c = quotient_bounded
