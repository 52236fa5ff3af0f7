use Rattle.std.proofs.Common.{◌≡◌, ◌-◌, ◌≤◌, length}
use Rattle.he_files.specs.Form.{several_at}
use Rattle.he_files.specs.Polynomial.{residue}
use Rattle.he_files.proofs.Loops.{with_front}
use Rattle.he_files.proofs.polynomials.row_at.Given as goal

-- what was read and what is still read are the row, and the offset is in the file
abbrev pub invariant-loop : goal.invariant-loop
invariant-loop l = record {
  told : with_front l.row.items (several_at (residue l.q) (l.n - l.counter) l.bytes l.at) ≡ several_at (residue l.q) l.n l.bytes l.fn.at;
  inside : l.at ≤ length l.bytes;
}
