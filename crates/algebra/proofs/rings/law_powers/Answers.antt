use Rattle.algebra.proofs.HeldPowers.{held_power-add, held_power-mul, held_geometric, held_power_divides}
use Rattle.algebra.proofs.rings.law_powers.Goals as goal

pub returns : goal.returns
returns g c = record { sums = held_power-add g.R.AnyRing.laws; products = held_power-mul g.R.AnyRing.laws; geometric_sum = held_geometric g.R.AnyRing.laws; divides = held_power_divides g.R.AnyRing.laws }
