use Rattle.cyclotomic.proofs.HeldRoots.{values_exist_law}
use Rattle.cyclotomic.proofs.unity.law_values_exist.Goals as goal

pub returns : goal.returns
returns g c = values_exist_law g.R.AnyRing.laws
