use Rattle.std.proofs.Common.{◌≡◌, IsTrue, map, drop}
use Rattle.algebra.specs.Poly.{value_at}
use Rattle.mod_ring.proofs.folds.horner.Given as goal

abbrev pub invariant-loop-i : goal.invariant-loop-i
invariant-loop-i g l =
    record {
      value : g.R.Ring.value l.value ≡ value_at (g.R.Ring.ops l.ring) (g.R.Ring.value l.at) (map g.R.Ring.value (drop l.i l.coeffs));
      held : IsTrue (g.R.Ring.held l.ring (g.R.Ring.value l.value));
    }
