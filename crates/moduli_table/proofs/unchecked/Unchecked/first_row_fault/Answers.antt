use Rattle.std.proofs.Common.{◌≡◌, refl, ap, sym, ◌∙◌, add-one, arith}
use Rattle.moduli_table.specs.First.{first_below}
use Rattle.moduli_table.specs.Chain.{Chain}
use Rattle.moduli_table.specs.Checks.{row_fault_at, first_row_fault}
use Rattle.moduli_table.specs.Inside.{chain_of}
use Rattle.moduli_table.proofs.Firsts.{first_none, found_option, none_option, first_end}
use Rattle.moduli_table.proofs.FirstFaults.{row_found}
use Rattle.moduli_table.proofs.unchecked.Unchecked.first_row_fault.Goals as goal

pub loop-i-init : goal.loop-i-init
loop-i-init c =
    let s : Chain = chain_of c.args.self.now in
    first_none (row_fault_at s) 0 (λ i l. absurd (omega arith))

pub returns-then-is_some : goal.returns-then-is_some
unfolding first_row_fault
returns-then-is_some c =
    let s : Chain = chain_of c.args.self.now in
    found_option (row_fault_at s) c.row_fault-fault.result c.loop-i.i c.count-i-end.result (sym c.is_some.ensures ∙ c.if-is_some.true) (row_found s c.loop-i.i c.row_fault-fault.result _ _ c.row_fault-fault.ensures refl c.row.ensures) c.loop-i-test.true c.loop-i.invariant ∙ ap (λ n. first_below n (row_fault_at s)) c.count-i-end.ensures

pub loop-i-preserved : goal.loop-i-preserved
loop-i-preserved c =
    let s : Chain = chain_of c.args.self.now in
    ap (λ n. first_below n (row_fault_at s)) (add-one c.loop-i.i) ∙ none_option (row_fault_at s) c.row_fault-fault.result c.loop-i.i (sym c.is_some.ensures ∙ c.if-is_some.false) (row_found s c.loop-i.i c.row_fault-fault.result _ _ c.row_fault-fault.ensures refl c.row.ensures) c.loop-i.invariant

pub returns : goal.returns
unfolding first_row_fault
returns c =
    let s : Chain = chain_of c.args.self.now in
    sym (first_end (row_fault_at s) c.loop-i.i _ (let e : c.loop-i.i ≡ c.count-i-end.result = omega arith in e ∙ c.count-i-end.ensures) c.loop-i.invariant)
