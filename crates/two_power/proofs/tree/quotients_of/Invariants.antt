use Rattle.std.proofs.Common.{◌≡◌, ℕ, ◌*◌, ◌/◌, ◌^◌, ◌<◌, length, get_or}
use Rattle.two_power.proofs.tree.quotients_of.Given as goal

abbrev pub invariant-loop-i : goal.invariant-loop-i
invariant-loop-i l = record {
  long : length l.quotients.items ≡ length l.factors;
  done : (k : ℕ) → k < l.i → get_or l.quotients.items k 0 ≡ get_or l.factors k 0 * 2 ^ 64 / l.q;
}
