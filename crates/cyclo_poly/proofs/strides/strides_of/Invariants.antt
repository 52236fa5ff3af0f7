use Rattle.std.proofs.Common.{◌≡◌, ◌*◌, ◌<◌}
use Rattle.cyclo_poly.specs.Strides.{AreStrides}
use Rattle.cyclo_poly.proofs.strides.strides_of.Given as goal

abbrev pub invariant-loop-rest : goal.invariant-loop-rest
invariant-loop-rest l = (l.k * l.rest ≡ l.m) × (0 < l.rest) × (AreStrides l.k l.strides.above.items l.strides.below.items)

abbrev pub decreases-loop-rest : goal.decreases-loop-rest
decreases-loop-rest l = l.rest
