use Rattle.algebra.proofs.Held.{held_laws}
use Rattle.algebra.proofs.rings.law_held_ring.Goals as goal

pub returns : goal.returns
returns g c = held_laws g.R.AnyRing.laws
