use Rattle.std.proofs.Common.{◌≡◌, ◌++◌}
use Rattle.std.specs.List.{flat_map}
use Rattle.algebra.specs.Whole.{below}
use Rattle.table_file.specs.Summary.{dimension_line}
use Rattle.table_file.proofs.summaries.put_dimensions.Given as goal

abbrev pub invariant-loop-i : goal.invariant-loop-i
invariant-loop-i l = l.text.items ≡ l.fn.text.items ++ flat_map (dimension_line l.cube) (below l.i)
