use Rattle.std.proofs.Common.{ℕ, ◌<◌, ◌↔◌}
use Rattle.algebra.specs.Divisor.{Dvd}
use Rattle.hyper_cube.proofs.unit_list.greatest_divisor.Given as goal

abbrev pub invariant-loop-low : goal.invariant-loop-low
invariant-loop-low l =
    record {
      positive : 0 < l.high;
      common : (d : ℕ) → (Dvd d l.high × Dvd d l.low) ↔ (Dvd d l.a × Dvd d l.b);
    }

abbrev pub decreases-loop-low : goal.decreases-loop-low
decreases-loop-low l = l.low
