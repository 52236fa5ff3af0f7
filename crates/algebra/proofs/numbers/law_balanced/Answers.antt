use Rattle.algebra.proofs.Balanced.{balanced_is, balanced_only}
use Rattle.algebra.proofs.numbers.law_balanced.Goals as goal

pub returns : goal.returns
returns c = record { is = balanced_is; only = balanced_only }
