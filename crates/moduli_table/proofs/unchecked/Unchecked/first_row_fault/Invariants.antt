use Rattle.std.proofs.Common.{◌≡◌, None}
use Rattle.moduli_table.specs.First.{first_below}
use Rattle.moduli_table.specs.Checks.{row_fault_at}
use Rattle.moduli_table.specs.Inside.{chain_of}
use Rattle.moduli_table.proofs.unchecked.Unchecked.first_row_fault.Given as goal

abbrev pub invariant-loop-i : goal.invariant-loop-i
invariant-loop-i l = first_below l.i (row_fault_at (chain_of l.self)) ≡ None
