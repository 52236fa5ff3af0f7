use Rattle.std.proofs.Common.{◌≡◌, map, take, pos}
use Rattle.mod_ring.specs.Zq.{modulus_of}
use Rattle.algebra.specs.Whole.{balanced}
use Rattle.cyclo_poly.specs.Tall.{AllSmall}
use Rattle.cyclo_poly.proofs.exact.small_row.Given as goal

abbrev pub invariant-loop-i : goal.invariant-loop-i
invariant-loop-i l =
    record {
      value : l.list.items ≡ map (λ x. balanced (modulus_of l.zq) (pos x)) (take l.i l.row);
      small : AllSmall l.list.items;
    }
