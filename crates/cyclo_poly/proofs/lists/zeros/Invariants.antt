use Rattle.std.proofs.Common.{◌≡◌, IsTrue, map, replicate}
use Rattle.std.specs.List.{All}
use Rattle.cyclo_poly.proofs.lists.zeros.Given as goal

abbrev pub invariant-loop : goal.invariant-loop
invariant-loop g l =
    record {
      value : map g.R.Ring.value l.list.items ≡ replicate l.counter (g.R.Ring.ops l.ring).zero;
      held : All (λ a. IsTrue (g.R.Ring.held l.ring (g.R.Ring.value a))) l.list.items;
    }
