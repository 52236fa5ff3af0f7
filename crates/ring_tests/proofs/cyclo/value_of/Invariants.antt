use Rattle.std.proofs.Common.{◌<◌}
use Rattle.mod_ring.specs.Zq.{modulus_of}
use Rattle.ring_tests.proofs.cyclo.value_of.Given as goal

abbrev pub invariant-loop-c : goal.invariant-loop-c
invariant-loop-c l = l.value < modulus_of l.zq
