use Rattle.algebra.proofs.HeldQuotients.{held_divided, held_divided_only}
use Rattle.algebra.proofs.coefficients.law_division.Goals as goal

pub returns : goal.returns
returns g c = record { divides = held_divided g.R.AnyRing.laws; only = held_divided_only g.R.AnyRing.laws }
