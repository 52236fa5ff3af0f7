use Rattle.std.proofs.Common.{rules}
use Rattle.radix_tests.proofs.SmallBasis.{small_basis}
use Rattle.radix_tests.proofs.pairs.small_radix.Goals as goal

pub new-requires : goal.new-requires
new-requires c = small_basis _ _ (search rules) (search rules)
