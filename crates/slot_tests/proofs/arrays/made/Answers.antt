use Rattle.std.proofs.Common.{All}
use Rattle.slot_array.specs.Arrays.{IsArray}
use Rattle.slot_tests.proofs.arrays.made.Goals as goal

pub apply-requires-clause-arrays : goal.apply-requires-clause-arrays
apply-requires-clause-arrays g c = let all : All (λ x. IsArray c.ext.result.now c.cube-cube.result.now x) c.deref.result.now = rw (c.ext.ensures.value, c.cube-cube.ensures.value, c.deref.ensures.value) c.in_ok-args.ensures in all
