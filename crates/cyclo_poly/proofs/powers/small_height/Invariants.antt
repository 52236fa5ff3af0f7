use Rattle.cyclo_poly.proofs.PowerSteps.{Powers}
use Rattle.cyclo_poly.proofs.powers.small_height.Given as goal

abbrev pub invariant-loop-t : goal.invariant-loop-t
invariant-loop-t l = Powers l.m l.t l.row.items l.most
