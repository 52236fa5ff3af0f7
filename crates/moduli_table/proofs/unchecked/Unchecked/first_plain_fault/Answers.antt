use Rattle.std.proofs.Common.{◌≡◌, refl, ap, sym, ◌∙◌, add-one, arith}
use Rattle.moduli_table.specs.First.{first_below}
use Rattle.moduli_table.specs.Chain.{Chain, row_at, modulus_at}
use Rattle.moduli_table.specs.declared.rows.ModRow.{ModRow}
use Rattle.moduli_table.specs.declared.faults.ModFault.TheVariants.{PlainInverse}
use Rattle.moduli_table.specs.Checks.{plain_fault, first_plain_fault}
use Rattle.moduli_table.specs.Inside.{chain_of}
use Rattle.moduli_table.proofs.Firsts.{first_none, first_found, first_more, first_end}
use Rattle.moduli_table.proofs.FirstFaults.{inverse_test, wrong_plain, right_plain}
use Rattle.moduli_table.proofs.unchecked.Unchecked.first_plain_fault.Goals as goal

pub loop-i-init : goal.loop-i-init
loop-i-init c =
    let s : Chain = chain_of c.args.self.now in
    first_none (plain_fault s) 0 (λ i l. absurd (omega arith))

pub returns-then-not-is_inverse : goal.returns-then-not-is_inverse
unfolding first_plain_fault
returns-then-not-is_inverse c =
    let s : Chain = chain_of c.args.self.now in
    let i = c.loop-i.i in
    let test = inverse_test c.is_inverse.result s.p s.p c.row-row.result.q (modulus_at s i) c.row-row.result.plain_inverse (row_at s i).plain_inverse c.is_inverse.ensures refl (ap (λ (r : ModRow). r.q) c.row-row.ensures) (ap (λ (r : ModRow). r.plain_inverse) c.row-row.ensures) in
    sym (first_found (plain_fault s) i c.count-i-end.result (PlainInverse i) c.loop-i-test.true c.loop-i.invariant (wrong_plain s i (sym test ∙ c.if-not-is_inverse.true))) ∙ ap (λ n. first_below n (plain_fault s)) c.count-i-end.ensures

pub loop-i-preserved : goal.loop-i-preserved
loop-i-preserved c =
    let s : Chain = chain_of c.args.self.now in
    let i = c.loop-i.i in
    let test = inverse_test c.is_inverse.result s.p s.p c.row-row.result.q (modulus_at s i) c.row-row.result.plain_inverse (row_at s i).plain_inverse c.is_inverse.ensures refl (ap (λ (r : ModRow). r.q) c.row-row.ensures) (ap (λ (r : ModRow). r.plain_inverse) c.row-row.ensures) in
    ap (λ n. first_below n (plain_fault s)) (add-one i) ∙ first_more (plain_fault s) i c.loop-i.invariant ∙ right_plain s i (sym test ∙ c.if-not-is_inverse.false)

pub returns : goal.returns
unfolding first_plain_fault
returns c =
    let s : Chain = chain_of c.args.self.now in
    sym (first_end (plain_fault s) c.loop-i.i _ (let e : c.loop-i.i ≡ c.count-i-end.result = omega arith in e ∙ c.count-i-end.ensures) c.loop-i.invariant)
