use Rattle.std.proofs.Common.{◌≡◌, suc, take, vec_len}
use Rattle.noise_bound.specs.Machine.{groups_added}
use Rattle.noise_bound.specs.Value.{value, AreBounds}
use Rattle.noise_bound.proofs.table.switches.Given as goal

abbrev pub invariant-loop-level : goal.invariant-loop-level
invariant-loop-level l =
    (vec_len l.switches ≡ l.level)
    × AreBounds (λ level. groups_added (value l.factor) (value l.special) l.digits (take (suc level) l.chain)) l.switches.items
