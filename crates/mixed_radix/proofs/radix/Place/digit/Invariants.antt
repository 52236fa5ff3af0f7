use Rattle.std.proofs.Common.{◌≡◌, ◌<◌, drop}
use Rattle.mod_ring.specs.Zq.{modulus_of}
use Rattle.mixed_radix.proofs.Steps.{steps}
use Rattle.mixed_radix.proofs.radix.Place.digit.Given as goal

abbrev pub invariant-loop-i : goal.invariant-loop-i
invariant-loop-i l =
    record {
      below : l.rest < modulus_of l.self.ring;
      steps_left : steps (modulus_of l.self.ring) (drop l.i l.self.inverse.items) (drop l.i l.earlier) l.rest ≡ steps (modulus_of l.self.ring) l.self.inverse.items l.earlier l.fn.remainder;
    }
