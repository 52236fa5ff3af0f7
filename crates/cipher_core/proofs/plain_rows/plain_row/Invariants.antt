use Rattle.std.proofs.Common.{◌≡◌, false, length, map, take}
use Rattle.residue_rows.specs.Whole.{whole}
use Rattle.residue_rows.specs.Kept.{moduli_kept}
use Rattle.slot_laws.specs.Slots.{balanced_row}
use Rattle.cipher_core.proofs.plain_rows.plain_row.Given as goal

abbrev pub invariant-loop-place : goal.invariant-loop-place
invariant-loop-place l =
    l.list.items ≡ take l.place (balanced_row l.tables.moduli.p (whole l.tables.moduli.m (moduli_kept l.tables (length l.rows) false) (map (λ row. row.items) l.rows)))
