use Rattle.cyclotomic.proofs.NormLists.{product_bounded}
use Rattle.cyclotomic.proofs.norm.law_norm_of_product.Goals as goal

pub returns : goal.returns
returns c = product_bounded
