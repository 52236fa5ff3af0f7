use Rattle.std.proofs.Common.{◌≡◌, ◌<◌, drop}
use Rattle.algebra.specs.Ring.{residues}
use Rattle.algebra.specs.Poly.{value_at}
use Rattle.mod_ring.specs.Zq.{modulus_of}
use Rattle.transform_tests.proofs.plain.value.Given as goal

abbrev pub invariant-loop-i : goal.invariant-loop-i
invariant-loop-i l = record {
  value : l.sum ≡ value_at (residues (modulus_of l.ring)) l.at (drop l.i l.coeffs);
  below : l.sum < modulus_of l.ring;
}
