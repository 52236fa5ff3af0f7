use Rattle.algebra.proofs.HeldValues.{held_coeff-at_power}
use Rattle.algebra.proofs.coefficients.law_substitution.Goals as goal

pub returns : goal.returns
returns g c = held_coeff-at_power g.R.AnyRing.laws
