use Rattle.std.proofs.Common.{◌<◌}
use Rattle.std.specs.List.{All}
use Rattle.algebra.specs.Ring.{residues}
use Rattle.algebra.specs.Poly.{coeff, times}
use Rattle.mod_ring.specs.Zq.{modulus_of}
use Rattle.hyper_cube.specs.Tables.{IsFilled}
use Rattle.slot_factor.proofs.rows.product.Given as goal

abbrev pub invariant-loop-i : goal.invariant-loop-i
invariant-loop-i l =
    record {
      value : IsFilled (coeff (residues (modulus_of l.zq)) (times (residues (modulus_of l.zq)) l.a l.b)) l.i l.list.items;
      below : All (λ v. v < modulus_of l.zq) l.list.items;
    }
