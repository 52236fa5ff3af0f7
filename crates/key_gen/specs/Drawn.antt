-- Which polynomials are drawn.
use Rattle.std.specs.Prelude.{ℕ, List, ◌++◌, map, take}
use Rattle.moduli_table.specs.Chain.{Chain}

-- the first moduli of a table, those of the chain first
abbrev pub first_moduli : Chain → ℕ → List ℕ
first_moduli c rows = take rows (map (λ r. r.q) (c.chain ++ c.special))
