use Rattle.std.proofs.Common.{◌≡◌, ◌*◌, ◌^◌, ◌≤◌, nat_abs}
use Rattle.algebra.specs.Ring.{whole_numbers}
use Rattle.algebra.specs.Range.{total, adds}
use Rattle.cyclo_poly.proofs.MemberSteps.{correlation}
use Rattle.cyclo_poly.proofs.members.correlated.Given as goal

abbrev pub invariant-loop-j : goal.invariant-loop-j
invariant-loop-j l = (l.sum ≡ total (adds whole_numbers) l.j (correlation l.g l.c l.from)) × (nat_abs l.sum ≤ l.j * 2 ^ 62)
