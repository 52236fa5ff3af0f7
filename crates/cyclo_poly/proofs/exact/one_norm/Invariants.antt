use Rattle.std.proofs.Common.{◌≡◌, ◌≤◌, ◌+◌, ◌*◌, drop, length}
use Rattle.cyclotomic.specs.Norm.{one_norm}
use Rattle.cyclo_poly.proofs.exact.one_norm.Given as goal

abbrev pub invariant-loop-i : goal.invariant-loop-i
invariant-loop-i l =
    record {
      value : l.sum ≡ one_norm (drop l.i l.f);
      small : l.sum + l.i * 2147483648 ≤ length l.f * 2147483648;
    }
