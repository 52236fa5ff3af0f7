-- The moduli that a value holds.
use Rattle.std.specs.Prelude.{map}
use Rattle.moduli_table.specs.Chain.{Chain}
use Rattle.moduli_table.specs.declared.unchecked.Unchecked.{Unchecked}

abbrev pub chain_of : Unchecked → Chain
chain_of s = record { m = s.m; p = s.p; chain = s.chain.items; special = s.special.items; inverse = map (λ list. list.items) s.inverse.items }
