use Rattle.std.proofs.Common.{◌≡◌, ◌≤◌, ◌*◌, ◌^◌, get_or}
use Rattle.algebra.specs.Range.{total, counts}
use Rattle.slot_factor.proofs.idempotents.constant_trace.Given as goal

abbrev pub invariant-loop-j : goal.invariant-loop-j
invariant-loop-j l =
    record {
      value : l.sum ≡ total counts l.j (λ j. get_or l.row j 0 * get_or l.terms j 0);
      small : l.sum ≤ l.j * 2 ^ 34;
    }
