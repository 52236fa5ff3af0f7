use Rattle.std.proofs.Common.{arith}
use Rattle.moduli_table.proofs.EuclidSteps.{coprime_by}
use Rattle.moduli_table.proofs.inverses.is_coprime.Goals as goal

pub returns : goal.returns
returns c = coprime_by c.args.q c.args.a _ (omega arith) c.inverse_or_zero.ensures.inverse c.inverse_or_zero.ensures.none
