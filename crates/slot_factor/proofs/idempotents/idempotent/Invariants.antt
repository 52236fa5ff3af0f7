use Rattle.std.proofs.Common.{◌<◌, ◌-◌, ◌*◌, ◌%◌}
use Rattle.std.specs.List.{All}
use Rattle.mod_ring.specs.Zq.{modulus_of}
use Rattle.hyper_cube.specs.Tables.{IsFilled}
use Rattle.slot_laws.specs.Slots.{constant_trace}
use Rattle.slot_factor.proofs.idempotents.idempotent.Given as goal

abbrev pub invariant-loop-i : goal.invariant-loop-i
invariant-loop-i l =
    record {
      value : IsFilled (λ i. (l.unit * constant_trace l.ext l.cube (l.m - i)) % modulus_of l.zq) l.i l.values.items;
      below : All (λ v. v < modulus_of l.zq) l.values.items;
    }
