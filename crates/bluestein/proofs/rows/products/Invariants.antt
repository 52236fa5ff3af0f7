use Rattle.std.proofs.Common.{◌≡◌, ℕ, ◌*◌, ◌%◌, ◌<◌, get_or}
use Rattle.bluestein.proofs.rows.products.Given as goal

abbrev pub invariant-loop-i : goal.invariant-loop-i
invariant-loop-i l = record {
  done : (k : ℕ) → k < l.i → get_or l.to k 0 % l.q ≡ (get_or l.factors k 0 * get_or l.from k 0) % l.q;
  small : (k : ℕ) → k < l.i → get_or l.to k 0 < 2 * l.q;
}
