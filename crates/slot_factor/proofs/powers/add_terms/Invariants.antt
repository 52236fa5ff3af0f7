use Rattle.std.proofs.Common.{◌≡◌, ℕ, ◌≤◌, ◌<◌, ◌*◌, ◌%◌, ◌^◌, get_or}
use Rattle.algebra.specs.Range.{total, counts}
use Rattle.ext_field.specs.Element.{eta_power}
use Rattle.slot_factor.proofs.powers.add_terms.Given as goal

abbrev pub invariant-loop-i : goal.invariant-loop-i
invariant-loop-i l =
    record {
      value : (j : ℕ) → get_or l.sums j 0 ≡ total counts l.i (λ i. get_or l.a i 0 * get_or (eta_power l.ext ((i * l.t) % l.m)) j 0);
      small : (j : ℕ) → get_or l.sums j 0 ≤ l.i * 2 ^ 34;
      place : l.place ≡ (l.i * l.t) % l.m;
      within : l.place < l.m;
    }
