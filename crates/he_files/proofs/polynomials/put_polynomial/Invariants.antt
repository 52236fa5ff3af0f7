use Rattle.std.proofs.Common.{◌≡◌, ◌++◌, take}
use Rattle.std.specs.List.{flat_map}
use Rattle.residue_rows.specs.Kept.{polynomial_values}
use Rattle.he_files.proofs.RowText.{row_bytes}
use Rattle.he_files.proofs.polynomials.put_polynomial.Given as goal

-- the rows before this one are written
abbrev pub invariant-loop-row : goal.invariant-loop-row
invariant-loop-row l = l.out.items ≡ l.fn.out.items ++ flat_map row_bytes (take l.row (polynomial_values l.x))
