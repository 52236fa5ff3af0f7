use Rattle.noise_bound.proofs.BalancedLaws.{IsBalanced-balanced}
use Rattle.noise_bound.proofs.laws.law_balanced.Goals as goal

pub returns : goal.returns
returns c = IsBalanced-balanced
