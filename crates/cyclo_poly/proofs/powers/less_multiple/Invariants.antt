use Rattle.std.proofs.Common.{◌≡◌, max}
use Rattle.cyclo_poly.specs.Powers.{IsLowered, height_from}
use Rattle.cyclo_poly.proofs.powers.less_multiple.Given as goal

abbrev pub invariant-loop-i : goal.invariant-loop-i
invariant-loop-i l = (IsLowered l.g l.factor l.from l.i l.initial.row l.row) × (l.high ≡ max l.most (height_from l.row l.from l.i))
