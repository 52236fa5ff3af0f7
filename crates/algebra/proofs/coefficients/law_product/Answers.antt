use Rattle.algebra.proofs.HeldValues.{held_coeff-times_is}
use Rattle.algebra.proofs.coefficients.law_product.Goals as goal

pub returns : goal.returns
returns g c = held_coeff-times_is g.R.AnyRing.laws
