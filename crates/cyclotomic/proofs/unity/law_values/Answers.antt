use Rattle.cyclotomic.proofs.HeldRoots.{value_law}
use Rattle.cyclotomic.proofs.unity.law_values.Goals as goal

pub returns : goal.returns
returns g c = value_law g.R.AnyRing.laws
