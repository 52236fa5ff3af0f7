use Rattle.std.proofs.Common.{◌≡◌, ℕ, ◌%◌, ◌<◌, ◌≤◌, length, get_or}
use Rattle.mod_ring.specs.Zq.{modulus_of}
use Rattle.slot_factor.proofs.rows.reduced.Given as goal

abbrev pub invariant-loop-i : goal.invariant-loop-i
invariant-loop-i l =
    record {
      done : (k : ℕ) → k < l.i → get_or l.sums.items k 0 ≡ get_or l.fn.sums.items k 0 % modulus_of l.zq;
      rest : (k : ℕ) → l.i ≤ k → get_or l.sums.items k 0 ≡ get_or l.fn.sums.items k 0;
      long : length l.sums.items ≡ length l.fn.sums.items;
    }
