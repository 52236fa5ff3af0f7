use Rattle.algebra.proofs.HeldValues.{held_value_is}
use Rattle.algebra.proofs.coefficients.law_value.Goals as goal

pub returns : goal.returns
returns g c = held_value_is g.R.AnyRing.laws
