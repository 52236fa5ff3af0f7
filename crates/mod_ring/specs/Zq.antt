-- What contracts see of a `Zq`.
use Rattle.std.specs.Prelude.{ℕ}
use Rattle.mod_ring.specs.declared.words.Zq.{Zq}

-- the modulus
abbrev pub modulus_of : Zq → ℕ
modulus_of z = z.q
