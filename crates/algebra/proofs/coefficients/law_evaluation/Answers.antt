use Rattle.algebra.proofs.HeldValues.{held_value-plus, held_value-times, held_value-at_power, held_value-remainder}
use Rattle.algebra.proofs.coefficients.law_evaluation.Goals as goal

pub returns : goal.returns
returns g c = record { of_plus = held_value-plus g.R.AnyRing.laws; of_times = held_value-times g.R.AnyRing.laws; of_at_power = held_value-at_power g.R.AnyRing.laws; of_remainder = held_value-remainder g.R.AnyRing.laws }
