use Rattle.std.proofs.Common.{◌≡◌, ℕ, ◌<◌, ◌≤◌, get_or}
use Rattle.double_crt.specs.ModuloRows.{empty_row, added}
use Rattle.double_crt.proofs.rows.add_rows.Given as goal

abbrev pub invariant-loop-i : goal.invariant-loop-i
invariant-loop-i l = record {
  done : (k : ℕ) → k < l.i → get_or l.rows k empty_row ≡ added (get_or l.initial.rows k empty_row) (get_or l.others k empty_row);
  rest : (k : ℕ) → l.i ≤ k → get_or l.rows k empty_row ≡ get_or l.initial.rows k empty_row;
}
