use Rattle.cyclotomic.proofs.HeldRoots.{transform_law}
use Rattle.cyclotomic.proofs.unity.law_transform.Goals as goal

pub returns : goal.returns
returns g c = transform_law g.R.AnyRing.laws
