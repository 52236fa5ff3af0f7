use Rattle.std.proofs.Common.{◌<◌, take}
use Rattle.std.specs.List.{All}
use Rattle.mod_ring.specs.Zq.{modulus_of}
use Rattle.cyclo_poly.specs.Strides.{IsLess}
use Rattle.cyclo_poly.proofs.passes.raise_all.Given as goal

abbrev pub invariant-loop-t : goal.invariant-loop-t
invariant-loop-t l = (All (λ c. c < modulus_of l.zq) l.values) × (IsLess (modulus_of l.zq) (take l.t l.strides) l.values l.initial.values)
