use Rattle.std.proofs.Common.{◌≡◌, ◌++◌, [], get_or, take}
use Rattle.std.specs.List.{flat_map}
use Rattle.std.specs.Int.{w64}
use Rattle.residue_rows.specs.Kept.{polynomial_values}
use Rattle.he_files.specs.Form.{number_bytes}
use Rattle.he_files.proofs.polynomials.put_row.Given as goal

-- the values before this unit are written
abbrev pub invariant-loop-unit : goal.invariant-loop-unit
invariant-loop-unit l = l.out.items ≡ l.fn.out.items ++ flat_map (number_bytes w64) (take l.unit (get_or (polynomial_values l.x) l.row []))
