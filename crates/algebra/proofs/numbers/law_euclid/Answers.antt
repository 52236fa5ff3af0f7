use Rattle.algebra.proofs.Euclid.{euclid}
use Rattle.algebra.proofs.numbers.law_euclid.Goals as goal

pub returns : goal.returns
returns c = λ a b p q. let e = euclid a b p q in (e.g, e.u, e.v, (e.of_a, e.divides_a), (e.of_b, e.divides_b), e.sum)
