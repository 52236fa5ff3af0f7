use Rattle.std.proofs.Common.{◌^◌, arith}
use Rattle.std.proofs.lemmas.Nat.{pow_pos}
use Rattle.mod_ring.proofs.Barrett.{moved_product}
use Rattle.mod_ring.proofs.words.Zq.mul_word.Goals as goal

pub returns-clause-value : goal.returns-clause-value
returns-clause-value c =
    let z = c.args.self.now in
    moved_product (2 ^ z.shift) z.q z.scaled c.args.a c.args.b c.reduce_wide.result (pow_pos z.shift) c.requires.a_in z.scaled_is (omega arith) c.reduce_wide.ensures
