use Rattle.std.proofs.Common.{◌≡◌, take}
use Rattle.residue_rows.specs.Rows.{rows_of}
use Rattle.residue_rows.specs.Kept.{moduli_kept}
use Rattle.double_crt.specs.Held.{moduli_in, entries_in}
use Rattle.double_crt.proofs.fills.small_rows.Given as goal

abbrev pub invariant-loop-i : goal.invariant-loop-i
invariant-loop-i l = record {
  moduli : moduli_in l.rows.items ≡ take l.i (moduli_kept l.tables l.chain_rows l.special);
  entries : entries_in l.rows.items ≡ take l.i (rows_of (moduli_kept l.tables l.chain_rows l.special) l.coeffs);
}
