-- The basis that the places of a radix hold.
use Rattle.std.specs.Prelude.{map}
use Rattle.mod_ring.specs.Zq.{modulus_of}
use Rattle.mixed_radix.specs.Basis.{Basis}
use Rattle.mixed_radix.specs.declared.radix.Radix.TheInside.{Inside}

abbrev pub basis_of : Inside → Basis
basis_of radix = record { moduli = map (λ place. modulus_of place.ring) radix.places.items; inverse = map (λ place. place.inverse.items) radix.places.items }
