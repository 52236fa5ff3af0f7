use Rattle.std.proofs.Common.{arith}
use Rattle.std.proofs.lemmas.Int.{ints}
use Rattle.std.proofs.lemmas.Bool.Decides.{nat_tests}
use Rattle.mod_ring.proofs.Wrapped.{mod_low}
use Rattle.mod_ring.proofs.words.Zq.balanced.Goals as goal

pub returns-else-a-self-clause-value : goal.returns-else-a-self-clause-value
returns-else-a-self-clause-value c =
    let low = mod_low c.args.a c.args.self.now.q (omega arith) in
    grind (arith, ints, nat_tests)
