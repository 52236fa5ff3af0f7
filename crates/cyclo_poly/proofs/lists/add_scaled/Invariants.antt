use Rattle.std.proofs.Common.{◌≡◌, IsTrue, map, take}
use Rattle.std.specs.List.{All}
use Rattle.algebra.specs.Poly.{plus, scaled}
use Rattle.cyclo_poly.proofs.lists.add_scaled.Given as goal

abbrev pub invariant-loop-i : goal.invariant-loop-i
invariant-loop-i g l =
    record {
      value : map g.R.Ring.value l.f.items ≡ plus (g.R.Ring.ops l.ring) (take l.i (scaled (g.R.Ring.ops l.ring) (g.R.Ring.value l.c) (map g.R.Ring.value l.g))) (map g.R.Ring.value l.fn.f.items);
      held : All (λ a. IsTrue (g.R.Ring.held l.ring (g.R.Ring.value a))) l.f.items;
    }
