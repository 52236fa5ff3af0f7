use Rattle.std.proofs.Common.{◌≡◌, map, take}
use Rattle.mod_ring.specs.Zq.{modulus_of}
use Rattle.mixed_radix.proofs.radix.Radix.new.Given as goal

abbrev pub invariant-loop-j : goal.invariant-loop-j
invariant-loop-j l =
    record {
      moduli : map (λ place. modulus_of place.ring) l.places.items ≡ take l.j l.moduli;
      inverse : map (λ place. place.inverse.items) l.places.items ≡ map (λ list. list.items) (take l.j l.inverse);
    }
