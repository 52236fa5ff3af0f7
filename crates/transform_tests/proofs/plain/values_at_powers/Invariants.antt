use Rattle.std.proofs.Common.{◌≡◌, ℕ, ◌<◌, get_or}
use Rattle.algebra.specs.Ring.{residues}
use Rattle.algebra.specs.Power.{power}
use Rattle.algebra.specs.Poly.{value_at}
use Rattle.mod_ring.specs.Zq.{modulus_of}
use Rattle.transform_tests.proofs.plain.values_at_powers.Given as goal

abbrev pub invariant-loop-j : goal.invariant-loop-j
invariant-loop-j l = record {
  point : l.point ≡ power (residues (modulus_of l.ring)) l.at l.j;
  below : l.point < modulus_of l.ring;
  done : (k : ℕ) → k < l.j → get_or l.out k 0 ≡ value_at (residues (modulus_of l.ring)) (power (residues (modulus_of l.ring)) l.at k) l.coeffs;
  small : (k : ℕ) → k < l.j → get_or l.out k 0 < modulus_of l.ring;
}
