use Rattle.std.proofs.Common.{◌≡◌, ◌<◌, map, take}
use Rattle.std.specs.List.{All}
use Rattle.mod_ring.specs.Zq.{modulus_of}
use Rattle.algebra.specs.Whole.{residue}
use Rattle.cyclo_poly.proofs.exact.residues_of.Given as goal

abbrev pub invariant-loop-i : goal.invariant-loop-i
invariant-loop-i l =
    record {
      value : l.list.items ≡ map (residue (modulus_of l.zq)) (take l.i l.a);
      below : All (λ v. v < modulus_of l.zq) l.list.items;
    }
