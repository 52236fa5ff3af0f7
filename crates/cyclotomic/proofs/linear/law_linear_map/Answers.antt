use Rattle.cyclotomic.proofs.HeldDual.{linear_map_law}
use Rattle.cyclotomic.proofs.linear.law_linear_map.Goals as goal

pub returns : goal.returns
returns g c = linear_map_law g.R.AnyRing.laws
