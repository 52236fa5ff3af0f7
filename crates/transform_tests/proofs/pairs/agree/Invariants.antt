use Rattle.std.proofs.Common.{◌≡◌, length}
use Rattle.transform_tests.proofs.pairs.agree.Given as goal

abbrev pub invariant-loop-kind : goal.invariant-loop-kind
invariant-loop-kind l = record {
  scratch_modulus : l.scratch.q ≡ l.q;
  scratch_count : l.scratch.m ≡ l.m;
  fast_long : length l.fast.items ≡ l.m;
  plain_long : length l.plain.items ≡ l.m;
}
