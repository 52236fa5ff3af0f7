use Rattle.algebra.proofs.HeldRemainders.{held_remainder-plus, held_remainder-product, held_remainder_same, held_remainder_small}
use Rattle.algebra.proofs.coefficients.law_remainder.Goals as goal

pub returns : goal.returns
returns g c = record { of_plus = held_remainder-plus g.R.AnyRing.laws; of_times = held_remainder-product g.R.AnyRing.laws; same = held_remainder_same g.R.AnyRing.laws; small = held_remainder_small g.R.AnyRing.laws }
