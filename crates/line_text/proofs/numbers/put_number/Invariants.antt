use Rattle.std.proofs.Common.{◌≡◌, ◌≤◌, ◌++◌, length, drop, decimal}
use Rattle.line_text.proofs.numbers.put_number.Given as goal

abbrev pub invariant-loop-rest : goal.invariant-loop-rest
invariant-loop-rest l = record {
  room : length (decimal l.rest) ≤ l.start;
  within : l.start ≤ 20;
  whole : length l.digits ≡ 20;
  so_far : decimal l.rest ++ drop l.start l.digits ≡ decimal l.x;
}

abbrev pub decreases-loop-rest : goal.decreases-loop-rest
decreases-loop-rest l = l.start
