use Rattle.std.proofs.Common.{◌≡◌, None}
use Rattle.moduli_table.specs.First.{first_below}
use Rattle.moduli_table.specs.Checks.{inverse_fault}
use Rattle.moduli_table.specs.Inside.{chain_of}
use Rattle.moduli_table.proofs.unchecked.Unchecked.first_inverse_fault.Given as goal

abbrev pub invariant-loop-j : goal.invariant-loop-j
invariant-loop-j l = first_below l.j (λ j. first_below j (inverse_fault (chain_of l.self) j)) ≡ None
