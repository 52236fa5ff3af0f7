use Rattle.std.proofs.Common.{◌≡◌, IsTrue, map, drop}
use Rattle.algebra.specs.Poly.{sum}
use Rattle.mod_ring.proofs.folds.sum.Given as goal

abbrev pub invariant-loop-i : goal.invariant-loop-i
invariant-loop-i g l =
    record {
      value : g.R.Ring.value l.total ≡ sum (g.R.Ring.ops l.ring) (map g.R.Ring.value (drop l.i l.list));
      held : IsTrue (g.R.Ring.held l.ring (g.R.Ring.value l.total));
    }
