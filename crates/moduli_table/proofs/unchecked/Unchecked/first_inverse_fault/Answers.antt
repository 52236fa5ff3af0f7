use Rattle.std.proofs.Common.{◌≡◌, ℕ, Option, ap, sym, ◌∙◌, add-one, arith}
use Rattle.moduli_table.specs.First.{first_below}
use Rattle.moduli_table.specs.Chain.{Chain}
use Rattle.moduli_table.specs.declared.faults.ModFault.{ModFault}
use Rattle.moduli_table.specs.Checks.{inverse_fault, first_inverse_fault}
use Rattle.moduli_table.specs.Inside.{chain_of}
use Rattle.moduli_table.proofs.Firsts.{first_none, found_option, none_option, first_end}
use Rattle.moduli_table.proofs.unchecked.Unchecked.first_inverse_fault.Goals as goal

pub loop-j-init : goal.loop-j-init
loop-j-init c =
    let s : Chain = chain_of c.args.self.now in
    first_none (λ j. first_below j (inverse_fault s j)) 0 (λ i l. absurd (omega arith))

pub returns-then-is_some : goal.returns-then-is_some
unfolding first_inverse_fault
returns-then-is_some c =
    let s : Chain = chain_of c.args.self.now in
    let f : ℕ → Option ModFault = λ j. first_below j (inverse_fault s j) in
    found_option f c.inverse_fault-fault.result c.loop-j.j c.count-j-end.result (sym c.is_some.ensures ∙ c.if-is_some.true) c.inverse_fault-fault.ensures c.loop-j-test.true c.loop-j.invariant ∙ ap (λ n. first_below n f) c.count-j-end.ensures

pub loop-j-preserved : goal.loop-j-preserved
loop-j-preserved c =
    let s : Chain = chain_of c.args.self.now in
    let f : ℕ → Option ModFault = λ j. first_below j (inverse_fault s j) in
    ap (λ n. first_below n f) (add-one c.loop-j.j) ∙ none_option f c.inverse_fault-fault.result c.loop-j.j (sym c.is_some.ensures ∙ c.if-is_some.false) c.inverse_fault-fault.ensures c.loop-j.invariant

pub returns : goal.returns
unfolding first_inverse_fault
returns c =
    let s : Chain = chain_of c.args.self.now in
    let f : ℕ → Option ModFault = λ j. first_below j (inverse_fault s j) in
    sym (first_end f c.loop-j.j _ (let e : c.loop-j.j ≡ c.count-j-end.result = omega arith in e ∙ c.count-j-end.ensures) c.loop-j.invariant)
