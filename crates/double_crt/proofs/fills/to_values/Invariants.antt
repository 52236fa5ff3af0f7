use Rattle.std.proofs.Common.{◌≡◌, ℕ, ◌<◌, ◌≤◌, get_or, length}
use Rattle.moduli_table.specs.Chain.{no_row}
use Rattle.residue_rows.specs.Values.{values_of}
use Rattle.residue_rows.specs.Kept.{rows_kept, root_of}
use Rattle.double_crt.specs.ModuloRows.{empty_row}
use Rattle.double_crt.proofs.fills.to_values.Given as goal

abbrev pub invariant-loop-i : goal.invariant-loop-i
invariant-loop-i l = record {
  room : length l.buffer.items ≡ l.tables.moduli.m;
  done : (k : ℕ) → k < l.i → get_or l.rows k empty_row ≡ record { q = (get_or l.initial.rows k empty_row).q; entries = values_of l.tables.moduli.m (root_of (get_or (rows_kept l.tables l.chain_rows l.special) k no_row)) (get_or l.initial.rows k empty_row).entries };
  rest : (k : ℕ) → l.i ≤ k → get_or l.rows k empty_row ≡ get_or l.initial.rows k empty_row;
}
