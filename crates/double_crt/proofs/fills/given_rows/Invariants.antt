use Rattle.std.proofs.Common.{◌≡◌, take, map}
use Rattle.residue_rows.specs.Kept.{moduli_kept}
use Rattle.double_crt.specs.Held.{moduli_in, entries_in}
use Rattle.double_crt.proofs.fills.given_rows.Given as goal

abbrev pub invariant-loop-i : goal.invariant-loop-i
invariant-loop-i l = record {
  moduli : moduli_in l.rows.items ≡ take l.i (moduli_kept l.tables l.chain_rows l.special);
  entries : entries_in l.rows.items ≡ take l.i (map (λ row. row.items) l.given);
}
