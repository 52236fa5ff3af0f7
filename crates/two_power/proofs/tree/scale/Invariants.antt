use Rattle.std.proofs.Common.{◌≡◌, ℕ, ◌*◌, ◌%◌, ◌<◌, get_or}
use Rattle.mod_ring.specs.Zq.{modulus_of}
use Rattle.two_power.proofs.tree.scale.Given as goal

abbrev pub invariant-loop-i : goal.invariant-loop-i
invariant-loop-i l = record {
  done : (k : ℕ) → k < l.i → get_or l.to k 0 ≡ (l.factor * get_or l.from k 0) % modulus_of l.ring;
  small : (k : ℕ) → k < l.i → get_or l.to k 0 < modulus_of l.ring;
}
