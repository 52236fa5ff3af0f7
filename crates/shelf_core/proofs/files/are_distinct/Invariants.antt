use Rattle.std.proofs.Common.{◌↔◌, drop}
use Rattle.shelf_core.specs.Files.{files_of, AreDistinct}
use Rattle.shelf_core.proofs.files.are_distinct.Given as goal

abbrev pub invariant-loop-i : goal.invariant-loop-i
invariant-loop-i l = AreDistinct (files_of (drop l.i l.files)) ↔ AreDistinct (files_of l.files)
