use Rattle.cyclotomic.proofs.NormLists.{small_balanced}
use Rattle.cyclotomic.proofs.norm.law_small_is_balanced.Goals as goal

pub returns : goal.returns
returns c = small_balanced
