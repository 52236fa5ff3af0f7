use Rattle.cyclotomic.proofs.HeldRoots.{roots_differ}
use Rattle.cyclotomic.proofs.unity.law_roots_differ.Goals as goal

pub returns : goal.returns
returns g c = roots_differ g.R.AnyRing.laws
