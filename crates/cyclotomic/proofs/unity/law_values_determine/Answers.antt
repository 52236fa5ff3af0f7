use Rattle.cyclotomic.proofs.HeldRoots.{values_determine_law}
use Rattle.cyclotomic.proofs.unity.law_values_determine.Goals as goal

pub returns : goal.returns
returns g c = values_determine_law g.R.AnyRing.laws
