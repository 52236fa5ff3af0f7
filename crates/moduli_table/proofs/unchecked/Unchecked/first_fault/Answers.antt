use Rattle.std.proofs.Common.{sym, ◌∙◌}
use Rattle.moduli_table.specs.Chain.{Chain}
use Rattle.moduli_table.specs.Inside.{chain_of}
use Rattle.moduli_table.proofs.FirstFaults.{rows_first, after_rows, inverses_first, plain_last}
use Rattle.moduli_table.proofs.unchecked.Unchecked.first_fault.Goals as goal

pub returns-then-is_some : goal.returns-then-is_some
returns-then-is_some c =
    rows_first (chain_of c.args.self.now) c.first_row_fault-fault.result (sym c.is_some.ensures ∙ c.if-is_some.true) c.first_row_fault-fault.ensures

pub returns-then-is_some-2 : goal.returns-then-is_some-2
returns-then-is_some-2 c =
    let s : Chain = chain_of c.args.self.now in
    inverses_first s c.first_inverse_fault-fault.result (sym c.is_some-2.ensures ∙ c.if-is_some-2.true) c.first_inverse_fault-fault.ensures ∙ after_rows s c.first_row_fault-fault.result (sym c.is_some.ensures ∙ c.if-is_some.false) c.first_row_fault-fault.ensures

pub returns : goal.returns
returns c =
    let s : Chain = chain_of c.args.self.now in
    c.first_plain_fault.ensures ∙ plain_last s c.first_inverse_fault-fault.result (sym c.is_some-2.ensures ∙ c.if-is_some-2.false) c.first_inverse_fault-fault.ensures ∙ after_rows s c.first_row_fault-fault.result (sym c.is_some.ensures ∙ c.if-is_some.false) c.first_row_fault-fault.ensures
