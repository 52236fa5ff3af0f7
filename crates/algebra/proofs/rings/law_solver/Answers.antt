use Rattle.algebra.proofs.HeldExpressions.{held_solve}
use Rattle.algebra.proofs.rings.law_solver.Goals as goal

pub returns : goal.returns
returns g c = held_solve g.R.AnyRing.laws
