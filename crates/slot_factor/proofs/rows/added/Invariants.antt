use Rattle.std.proofs.Common.{◌≡◌, ◌<◌, take}
use Rattle.std.specs.List.{All}
use Rattle.mod_ring.specs.Zq.{modulus_of}
use Rattle.algebra.specs.Ring.{residues}
use Rattle.algebra.specs.Poly.{plus}
use Rattle.slot_factor.proofs.rows.added.Given as goal

abbrev pub invariant-loop-i : goal.invariant-loop-i
invariant-loop-i l =
    record {
      value : l.list.items ≡ plus (residues (modulus_of l.zq)) (take l.i l.a) (take l.i l.b);
      below : All (λ v. v < modulus_of l.zq) l.list.items;
    }
