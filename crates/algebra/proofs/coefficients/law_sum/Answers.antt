use Rattle.algebra.proofs.HeldQuotients.{held_coeff-plus}
use Rattle.algebra.proofs.coefficients.law_sum.Goals as goal

pub returns : goal.returns
returns g c = held_coeff-plus g.R.AnyRing.laws
