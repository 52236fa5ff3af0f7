use Rattle.std.proofs.Common.{◌≡◌, ℕ, ◌*◌, ◌%◌, ◌<◌, ◌≤◌}
use Rattle.algebra.specs.Divisor.{Dvd}
use Rattle.moduli_table.proofs.inverses.inverse_or_zero.Given as goal

abbrev pub invariant-loop-smaller : goal.invariant-loop-smaller
invariant-loop-smaller l =
    record {
      larger_in : l.larger ≤ l.q;
      larger_factor_in : l.larger_factor < l.q;
      smaller_factor_in : l.smaller_factor < l.q;
      larger_is : (l.larger_factor * l.a) % l.q ≡ l.larger % l.q;
      smaller_is : (l.smaller_factor * l.a) % l.q ≡ l.smaller % l.q;
      smaller_in : l.smaller < l.larger;
      common : (d : ℕ) → Dvd d l.larger → Dvd d l.smaller → Dvd d l.a × Dvd d l.q;
    }

abbrev pub decreases-loop-smaller : goal.decreases-loop-smaller
decreases-loop-smaller l = l.smaller
