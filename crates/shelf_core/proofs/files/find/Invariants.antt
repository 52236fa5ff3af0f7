use Rattle.std.proofs.Common.{◌≡◌, drop}
use Rattle.shelf_core.specs.Files.{bytes_of, files_of}
use Rattle.shelf_core.proofs.files.find.Given as goal

abbrev pub invariant-loop-held : goal.invariant-loop-held
invariant-loop-held l =
    bytes_of l.name (files_of (drop l.held-index l.files)) ≡ bytes_of l.name (files_of l.files)
