use Rattle.std.proofs.Common.{◌≡◌, ◌++◌, drop, map, option_map}
use Rattle.table_keys.specs.Documents.{modulus_of}
use Rattle.table_keys.specs.Values.{each_of}
use Rattle.table_keys.proofs.moduli.all_moduli.Given as goal

abbrev pub invariant-loop-row : goal.invariant-loop-row
invariant-loop-row l =
    option_map (λ rest. l.moduli.items ++ rest) (each_of modulus_of (map (λ row. row.items) (drop l.row-index l.rows)))
    ≡ each_of modulus_of (map (λ row. row.items) l.rows)
