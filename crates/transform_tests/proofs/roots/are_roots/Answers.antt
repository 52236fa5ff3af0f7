use Rattle.std.proofs.Common.{arith}
use Rattle.transform_tests.proofs.Tested.{roots_tested}
use Rattle.transform_tests.proofs.roots.are_roots.Goals as goal

pub returns : goal.returns
returns c = λ t. roots_tested c.args.q c.args.m c.args.zeta c.args.psi c.residues_modulo-ring.result.q c.convolution_length-half.result c.mul_word-square.result c.power_word.result c.power_word-else-power_word-ne1.result c.power_word-2.result (omega arith) (omega arith) (omega arith) (omega arith) (omega arith) (omega arith) (omega arith) (omega arith) c.residues_modulo-ring.ensures c.convolution_length-half.ensures c.mul_word-square.ensures.value c.power_word.ensures.value (omega arith) c.power_word-else-power_word-ne1.ensures.value (omega arith) c.power_word-2.ensures.value (omega arith) (c.differ.ensures t)
