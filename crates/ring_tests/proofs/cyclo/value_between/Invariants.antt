use Rattle.std.proofs.Common.{◌<◌}
use Rattle.mod_ring.specs.Zq.{modulus_of}
use Rattle.ring_tests.proofs.cyclo.value_between.Given as goal

abbrev pub invariant-loop-m : goal.invariant-loop-m
invariant-loop-m l = l.all < modulus_of l.zq
