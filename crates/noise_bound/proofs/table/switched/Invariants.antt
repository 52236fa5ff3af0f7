use Rattle.std.proofs.Common.{◌≡◌, ◌+◌, ◌≤◌, length, drop, fold, map}
use Rattle.noise_bound.specs.Groups.{groups}
use Rattle.noise_bound.specs.Machine.{group_added, groups_added}
use Rattle.noise_bound.specs.Rounding.{plus}
use Rattle.noise_bound.specs.Value.{value}
use Rattle.noise_bound.proofs.table.switched.Given as goal

abbrev pub invariant-loop-size : goal.invariant-loop-size
invariant-loop-size l =
    (fold plus (value l.sum) (map (group_added (value l.factor) (value l.special)) (groups (drop l.size-index l.digits) l.rest))
    ≡ groups_added (value l.factor) (value l.special) l.digits l.moduli)
    × (l.sum.exp + length l.rest ≤ 2200 + length l.moduli)
    × (length l.rest ≤ length l.moduli)
