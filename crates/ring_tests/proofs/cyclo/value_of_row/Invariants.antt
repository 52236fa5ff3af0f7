use Rattle.std.proofs.Common.{◌<◌}
use Rattle.mod_ring.specs.Zq.{modulus_of}
use Rattle.ring_tests.proofs.cyclo.value_of_row.Given as goal

abbrev pub invariant-loop-v : goal.invariant-loop-v
invariant-loop-v l = l.value < modulus_of l.zq
