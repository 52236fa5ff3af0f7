use Rattle.std.proofs.Common.{◌≡◌, length, take, map}
use Rattle.residue_rows.specs.Kept.{rows_kept, interpolated_each}
use Rattle.double_crt.specs.Held.{entries_in}
use Rattle.double_crt.proofs.fills.coefficients.Given as goal

abbrev pub invariant-loop-i : goal.invariant-loop-i
invariant-loop-i l = record {
  values_room : length l.values.items ≡ l.tables.moduli.m;
  coeffs_room : length l.coeffs.items ≡ l.tables.moduli.m;
  done : map (λ list. list.items) l.lists.items ≡ take l.i (interpolated_each l.tables.moduli.m (rows_kept l.tables l.chain_rows l.special) (entries_in l.rows));
}
