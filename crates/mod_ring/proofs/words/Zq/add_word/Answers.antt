use Rattle.std.proofs.Common.{◌+◌, arith}
use Rattle.mod_ring.proofs.Wrapped.{min_wrapped}
use Rattle.mod_ring.proofs.words.Zq.add_word.Goals as goal

pub returns-clause-value : goal.returns-clause-value
returns-clause-value c =
    let q = c.args.self.now.q in
    omega (arith, min_wrapped (c.args.a + c.args.b) q (omega arith) (omega arith))
