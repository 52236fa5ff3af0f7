use Rattle.std.proofs.Common.{rules}
use Rattle.radix_tests.proofs.LargeBasis.{large_basis}
use Rattle.radix_tests.proofs.pairs.large_radix.Goals as goal

pub new-requires : goal.new-requires
new-requires c = large_basis _ _ _ (search rules) (search rules) (search rules)
