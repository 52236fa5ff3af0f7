use Rattle.std.proofs.Common.{◌≡◌, ◌-◌, ◌≤◌, length}
use Rattle.he_files.specs.Secret.{entries_at}
use Rattle.he_files.proofs.Loops.{with_front}
use Rattle.he_files.proofs.secrets.entries_at.Given as goal

-- what was read and what is still read are the entries, and the offset is in the file
abbrev pub invariant-loop-i : goal.invariant-loop-i
invariant-loop-i l = record {
  told : with_front l.entries.items (entries_at (l.n - l.i) l.weight l.bytes l.at) ≡ entries_at l.n l.fn.weight l.bytes l.fn.at;
  inside : l.at ≤ length l.bytes;
}
