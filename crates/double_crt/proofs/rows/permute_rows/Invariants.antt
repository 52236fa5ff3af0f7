use Rattle.std.proofs.Common.{◌≡◌, ℕ, ◌*◌, ◌%◌, ◌<◌, ◌≤◌, get_or, length}
use Rattle.double_crt.specs.ModuloRows.{empty_row, permuted}
use Rattle.double_crt.proofs.rows.permute_rows.Given as goal

abbrev pub invariant-loop-i : goal.invariant-loop-i
invariant-loop-i l = record {
  done : (i : ℕ) → i < l.i → get_or l.out i empty_row ≡ permuted (λ j. get_or l.places ((j * l.k) % length l.places) 0) (get_or l.rows i empty_row) l.units;
  rest : (i : ℕ) → l.i ≤ i → get_or l.out i empty_row ≡ get_or l.initial.out i empty_row;
}
