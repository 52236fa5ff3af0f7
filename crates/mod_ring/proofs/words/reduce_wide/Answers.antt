use Rattle.std.proofs.Common.{◌^◌, arith}
use Rattle.mod_ring.proofs.Barrett.{guess_low, guess_near, reduced}
use Rattle.mod_ring.proofs.words.reduce_wide.Goals as goal

pub overflow_sub-rest : goal.overflow_sub-rest
overflow_sub-rest c = guess_low (2 ^ 61) (2 ^ 63) c.args.modulus c.args.reciprocal c.args.p (omega arith) (omega arith) c.requires.reciprocal

pub overflow_cast-rest-3 : goal.overflow_cast-rest-3
overflow_cast-rest-3 c = omega (arith, guess_near (2 ^ 61) (2 ^ 63) c.args.modulus c.args.reciprocal c.args.p (omega arith) (omega arith) (omega arith) (omega arith) c.requires.reciprocal)

pub returns : goal.returns
returns c =
    reduced (2 ^ 61) (2 ^ 63) c.args.modulus c.args.reciprocal c.args.p c.min-rest.result c.min.result (omega arith) (omega arith) (omega arith) (omega arith) (omega arith) c.requires.reciprocal (omega arith) (omega arith)
