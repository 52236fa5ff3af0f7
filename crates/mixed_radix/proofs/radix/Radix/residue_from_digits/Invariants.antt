use Rattle.std.proofs.Common.{◌≡◌, ◌+◌, ◌<◌, drop}
use Rattle.algebra.specs.Whole.{residue}
use Rattle.mod_ring.specs.Zq.{modulus_of}
use Rattle.mixed_radix.specs.Mixed.{mixed}
use Rattle.mixed_radix.specs.Places.{basis_of}
use Rattle.mixed_radix.proofs.radix.Radix.residue_from_digits.Given as goal

abbrev pub invariant-loop-i : goal.invariant-loop-i
invariant-loop-i l =
    record {
      below : l.sum < modulus_of l.target;
      value : l.sum ≡ residue (modulus_of l.target) (mixed (drop (l.first + l.i) (basis_of l.self-inside).moduli) (drop l.i l.digits));
    }
