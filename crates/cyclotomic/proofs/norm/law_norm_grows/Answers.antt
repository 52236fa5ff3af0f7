use Rattle.cyclotomic.proofs.NormLists.{bounds_grow}
use Rattle.cyclotomic.proofs.norm.law_norm_grows.Goals as goal

pub returns : goal.returns
returns c = bounds_grow
