use Rattle.std.proofs.Common.{◌≡◌, ◌≤◌, ◌+◌, ◌*◌, drop, length}
use Rattle.cyclotomic.specs.Norm.{one_norm}
use Rattle.slot_factor.proofs.norms.one_norm.Given as goal

abbrev pub invariant-loop-i : goal.invariant-loop-i
invariant-loop-i l =
    record {
      value : l.sum ≡ one_norm (drop l.i l.a);
      small : l.sum + l.i * 131071 ≤ length l.a * 131071;
    }
