use Rattle.std.proofs.Common.{arith}
use Rattle.noise_bound.proofs.Words.{lifted_is, lifted-same, lifted-long}
use Rattle.noise_bound.proofs.rounding.lifted.Goals as goal

pub returns-clause-same : goal.returns-clause-same
returns-clause-same c = lifted-same c.args.number c.args.exp c.min-lift.result (lifted_is c.args.number _ _ (omega arith) (omega arith) c.min-lift.ensures)

pub returns-clause-long : goal.returns-clause-long
returns-clause-long c = lifted-long c.args.number c.args.exp c.min-lift.result (lifted_is c.args.number _ _ (omega arith) (omega arith) c.min-lift.ensures)
