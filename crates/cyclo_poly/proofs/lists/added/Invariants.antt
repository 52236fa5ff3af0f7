use Rattle.std.proofs.Common.{◌≡◌, IsTrue, map, take}
use Rattle.std.specs.List.{All}
use Rattle.algebra.specs.Poly.{plus}
use Rattle.cyclo_poly.proofs.lists.added.Given as goal

abbrev pub invariant-loop-i : goal.invariant-loop-i
invariant-loop-i g l =
    record {
      value : map g.R.Ring.value l.list.items ≡ plus (g.R.Ring.ops l.ring) (map g.R.Ring.value (take l.i l.f)) (map g.R.Ring.value (take l.i l.g));
      held : All (λ a. IsTrue (g.R.Ring.held l.ring (g.R.Ring.value a))) l.list.items;
    }
