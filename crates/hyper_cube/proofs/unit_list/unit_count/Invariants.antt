use Rattle.std.proofs.Common.{◌≡◌, suc, ◌≤◌, cond}
use Rattle.algebra.specs.Range.{total, counts}
use Rattle.algebra.specs.Divisor.{is_unit}
use Rattle.hyper_cube.proofs.unit_list.unit_count.Given as goal

abbrev pub invariant-loop-t : goal.invariant-loop-t
invariant-loop-t l = record {
  value : l.count ≡ total counts l.t (λ t. cond (is_unit l.m (suc t)) 1 0);
  bound : l.count ≤ l.t;
}
