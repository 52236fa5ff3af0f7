use Rattle.algebra.proofs.HeldQuotients.{held_quotient_laws}
use Rattle.algebra.proofs.coefficients.law_quotient_ring.Goals as goal

pub returns : goal.returns
returns g c = held_quotient_laws g.R.AnyRing.laws
