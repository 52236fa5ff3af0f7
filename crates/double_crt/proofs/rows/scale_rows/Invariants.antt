use Rattle.std.proofs.Common.{◌≡◌, ℕ, ◌<◌, ◌≤◌, get_or}
use Rattle.double_crt.specs.ModuloRows.{empty_row, scaled_by}
use Rattle.double_crt.proofs.rows.scale_rows.Given as goal

abbrev pub invariant-loop-i : goal.invariant-loop-i
invariant-loop-i l = record {
  done : (i : ℕ) → i < l.i → get_or l.rows i empty_row ≡ scaled_by l.k (get_or l.initial.rows i empty_row);
  rest : (i : ℕ) → l.i ≤ i → get_or l.rows i empty_row ≡ get_or l.initial.rows i empty_row;
}
