use Rattle.std.proofs.Common.{◌≡◌, ◌++◌}
use Rattle.std.specs.List.{flat_map}
use Rattle.algebra.specs.Whole.{below}
use Rattle.table_file.specs.Summary.{limit_line}
use Rattle.table_file.proofs.summaries.put_limits.Given as goal

abbrev pub invariant-loop-level : goal.invariant-loop-level
invariant-loop-level l = l.text.items ≡ l.fn.text.items ++ flat_map (limit_line l.bounds) (below l.level)
