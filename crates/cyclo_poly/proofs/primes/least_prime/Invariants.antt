use Rattle.std.proofs.Common.{ℕ, ◌<◌}
use Rattle.algebra.specs.Divisor.{Dvd}
use Rattle.cyclo_poly.proofs.primes.least_prime.Given as goal

abbrev pub invariant-loop-p : goal.invariant-loop-p
invariant-loop-p l = (e : ℕ) → 1 < e → e < l.p → Dvd e l.n → ⊥
