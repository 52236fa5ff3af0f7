use Rattle.std.proofs.Common.{◌≡◌, ◌*◌, ◌≤◌, take, sum}
use Rattle.bound_tests.proofs.tables.sum_of.Given as goal

abbrev pub invariant-loop-d : goal.invariant-loop-d
invariant-loop-d l = (l.sum ≡ sum (take l.d-index l.digits)) × (l.sum ≤ 4294967296 * l.d-index)
