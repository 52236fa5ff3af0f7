use Rattle.mixed_radix.proofs.Sums.{mixed_some, mixed_small, mixed_one}
use Rattle.mixed_radix.proofs.laws.law_mixed_radix.Goals as goal

pub returns : goal.returns
returns c = record { some = mixed_some; small = mixed_small; one = mixed_one }
