use Rattle.std.proofs.Common.{◌≡◌, ℕ, ◌<◌, map, get_or}
use Rattle.residue_rows.specs.Whole.{residues_at}
use Rattle.cipher_core.proofs.plain_rows.read_column.Given as goal

abbrev pub invariant-loop-j : goal.invariant-loop-j
invariant-loop-j l = (k : ℕ) → k < l.j → get_or l.out k 0 ≡ get_or (residues_at l.place (map (λ row. row.items) l.rows)) k 0
