-- The roots of a row of the table.
use Rattle.std.specs.Prelude.{ℕ}
use Rattle.bluestein.specs.Plan.{Roots, square}
use Rattle.moduli_table.specs.declared.rows.ModRow.{ModRow}
use Rattle.residue_rows.specs.Values.{Root}

-- the roots of a row, of the table's index m
abbrev pub roots_of_row : ℕ → ModRow → Roots
roots_of_row m r = record { q = r.q; m = m; zeta = r.zeta; psi = r.psi }

-- the root at whose powers the values are taken
abbrev pub point_of : Roots → Root
point_of r = record { q = r.q; omega = square r.q r.zeta }
