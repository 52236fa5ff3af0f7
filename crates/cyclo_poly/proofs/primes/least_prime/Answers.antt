use Rattle.std.proofs.Common.{arith, eq-eqb}
use Rattle.algebra.proofs.Divisors.{divisor_of_test, Dvd_refl}
use Rattle.cyclo_poly.proofs.PrimeFacts.{least_is_prime, none_below_more}
use Rattle.cyclo_poly.proofs.primes.least_prime.Goals as goal

pub returns-then-n-p-eq0-clause-prime : goal.returns-then-n-p-eq0-clause-prime
returns-then-n-p-eq0-clause-prime c = least_is_prime c.loop-p.p c.args.n (omega arith) (divisor_of_test c.loop-p.p c.args.n (eq-eqb _ _ c.if-n-p-eq0.true)) c.loop-p.invariant

pub returns-then-n-p-eq0-clause-divides : goal.returns-then-n-p-eq0-clause-divides
returns-then-n-p-eq0-clause-divides c = divisor_of_test c.loop-p.p c.args.n (eq-eqb _ _ c.if-n-p-eq0.true)

pub loop-p-preserved : goal.loop-p-preserved
loop-p-preserved c = none_below_more c.loop-p.p c.args.n c.loop-p.invariant c.if-n-p-eq0.false

pub returns-clause-prime : goal.returns-clause-prime
returns-clause-prime c = least_is_prime c.args.n c.args.n (omega arith) (Dvd_refl c.args.n) (λ e a l d. c.loop-p.invariant e a (omega (arith, l)) d)
