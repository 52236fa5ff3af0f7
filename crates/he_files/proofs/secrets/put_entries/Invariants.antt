use Rattle.std.proofs.Common.{◌≡◌, ◌++◌, map, take}
use Rattle.he_files.specs.Secret.{entry_byte}
use Rattle.he_files.proofs.secrets.put_entries.Given as goal

abbrev pub invariant-loop-entry : goal.invariant-loop-entry
invariant-loop-entry l = l.out.items ≡ l.fn.out.items ++ map entry_byte (take l.entry-index l.entries)
