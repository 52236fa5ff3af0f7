use Rattle.std.proofs.Common.{◌≡◌, IsTrue, map, drop}
use Rattle.std.specs.List.{All}
use Rattle.algebra.specs.Poly.{times}
use Rattle.cyclo_poly.proofs.lists.product.Given as goal

abbrev pub invariant-loop-i : goal.invariant-loop-i
invariant-loop-i g l =
    record {
      value : map g.R.Ring.value l.total.items ≡ times (g.R.Ring.ops l.ring) (map g.R.Ring.value (drop l.i l.f)) (map g.R.Ring.value l.g);
      held : All (λ a. IsTrue (g.R.Ring.held l.ring (g.R.Ring.value a))) l.total.items;
    }
