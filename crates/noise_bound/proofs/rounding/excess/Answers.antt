use Rattle.std.proofs.Common.{arith}
use Rattle.noise_bound.proofs.Words.{excess_is}
use Rattle.noise_bound.proofs.rounding.excess.Goals as goal

pub returns-clause-fits : goal.returns-clause-fits
returns-clause-fits c = (excess_is c.args.number _ (omega arith) c.saturating_sub.ensures).1.fits

pub returns-clause-full : goal.returns-clause-full
returns-clause-full c = (excess_is c.args.number _ (omega arith) c.saturating_sub.ensures).1.full
