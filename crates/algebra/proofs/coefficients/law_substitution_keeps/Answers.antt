use Rattle.algebra.proofs.HeldValues.{held_at_power-plus, held_at_power-times}
use Rattle.algebra.proofs.coefficients.law_substitution_keeps.Goals as goal

pub returns : goal.returns
returns g c = record { sums = held_at_power-plus g.R.AnyRing.laws; products = held_at_power-times g.R.AnyRing.laws }
