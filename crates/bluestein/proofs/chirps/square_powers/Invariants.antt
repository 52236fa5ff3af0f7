use Rattle.std.proofs.Common.{◌≡◌, ℕ, ◌+◌, ◌*◌, ◌%◌, ◌^◌, ◌<◌, get_or}
use Rattle.mod_ring.specs.Zq.{modulus_of}
use Rattle.bluestein.proofs.chirps.square_powers.Given as goal

abbrev pub invariant-loop-i : goal.invariant-loop-i
invariant-loop-i l = record {
  power : l.power ≡ (l.factor * l.base ^ (l.i * l.i)) % modulus_of l.ring;
  step : l.step ≡ l.base ^ (2 * l.i + 1) % modulus_of l.ring;
  done : (k : ℕ) → k < l.i → get_or l.out k 0 ≡ (l.factor * l.base ^ (k * k)) % modulus_of l.ring;
  small : (k : ℕ) → k < l.i → get_or l.out k 0 < modulus_of l.ring;
  power_in : l.power < modulus_of l.ring;
  step_in : l.step < modulus_of l.ring;
}
