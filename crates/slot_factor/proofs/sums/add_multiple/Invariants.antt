use Rattle.std.proofs.Common.{◌≡◌, ℕ, ◌+◌, ◌*◌, ◌<◌, ◌≤◌, get_or}
use Rattle.slot_factor.proofs.sums.add_multiple.Given as goal

abbrev pub invariant-loop-i : goal.invariant-loop-i
invariant-loop-i l =
    record {
      done : (k : ℕ) → k < l.i → get_or l.sums k 0 ≡ get_or l.initial.sums k 0 + l.factor * get_or l.row k 0;
      rest : (k : ℕ) → l.i ≤ k → get_or l.sums k 0 ≡ get_or l.initial.sums k 0;
    }
