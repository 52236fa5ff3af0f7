use Rattle.std.proofs.Common.{arith, ◌^◌}
use Rattle.mod_ring.proofs.Shoup.{quotient_low, rest_below, rest_congruent}
use Rattle.mod_ring.proofs.lazy.mul_lazy.Goals as goal

pub overflow_sub-result : goal.overflow_sub-result
overflow_sub-result c = quotient_low (2 ^ 64) c.args.w c.args.q c.args.x c.args.quotient (omega arith) (omega arith) c.requires.quotient

pub overflow_cast-result-5 : goal.overflow_cast-result-5
overflow_cast-result-5 c = omega (arith, rest_below (2 ^ 64) c.args.w c.args.q c.args.x c.args.quotient (omega arith) (omega arith) c.requires.quotient)

pub returns-clause-value : goal.returns-clause-value
returns-clause-value c = rest_congruent (2 ^ 64) c.args.w c.args.q c.args.x c.args.quotient (omega arith) (omega arith) c.requires.quotient

pub returns-clause-below : goal.returns-clause-below
returns-clause-below c = rest_below (2 ^ 64) c.args.w c.args.q c.args.x c.args.quotient (omega arith) (omega arith) c.requires.quotient
