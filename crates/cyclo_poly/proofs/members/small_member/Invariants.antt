use Rattle.std.proofs.Common.{◌≡◌, ◌*◌, ◌<◌}
use Rattle.cyclotomic.specs.Cyclotomic.{phi}
use Rattle.cyclo_poly.specs.Tall.{AllSmall}
use Rattle.cyclo_poly.proofs.members.small_member.Given as goal

abbrev pub invariant-loop-rest : goal.invariant-loop-rest
invariant-loop-rest l = (l.k * l.rest ≡ l.d) × (0 < l.rest) × (l.member.items ≡ phi l.k) × (AllSmall l.member.items)

abbrev pub decreases-loop-rest : goal.decreases-loop-rest
decreases-loop-rest l = l.rest
