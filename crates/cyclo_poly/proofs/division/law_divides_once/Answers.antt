use Rattle.algebra.proofs.HeldQuotients.{held_divided_only}
use Rattle.cyclo_poly.proofs.division.law_divides_once.Goals as goal

pub returns : goal.returns
returns g c = held_divided_only (g.met.R.Ring.laws c.args.ring.now c.requires)
