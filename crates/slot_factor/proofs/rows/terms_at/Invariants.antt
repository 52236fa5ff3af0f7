use Rattle.std.proofs.Common.{◌≡◌, ◌≤◌, ◌*◌, ◌-◌, ◌^◌, get_or}
use Rattle.algebra.specs.Range.{total, counts}
use Rattle.slot_factor.proofs.rows.terms_at.Given as goal

abbrev pub invariant-loop-j : goal.invariant-loop-j
invariant-loop-j l =
    record {
      value : l.sum ≡ total counts l.j (λ t. get_or l.a t 0 * get_or l.b (l.i - t) 0);
      small : l.sum ≤ l.j * 2 ^ 34;
    }
