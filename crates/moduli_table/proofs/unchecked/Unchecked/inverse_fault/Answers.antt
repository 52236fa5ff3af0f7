use Rattle.std.proofs.Common.{ap, sym, ◌∙◌, add-one, arith}
use Rattle.moduli_table.specs.First.{first_below}
use Rattle.moduli_table.specs.Chain.{Chain, modulus_at, entry_at}
use Rattle.moduli_table.specs.declared.rows.ModRow.{ModRow}
use Rattle.moduli_table.specs.declared.faults.ModFault.TheVariants.{Inverse}
use Rattle.moduli_table.specs.Checks.{inverse_fault}
use Rattle.moduli_table.specs.Inside.{chain_of}
use Rattle.moduli_table.proofs.Firsts.{first_none, first_found, first_more}
use Rattle.moduli_table.proofs.FirstFaults.{inverse_test, wrong_inverse, right_inverse}
use Rattle.moduli_table.proofs.unchecked.Unchecked.inverse_fault.Goals as goal

pub loop-i-init : goal.loop-i-init
loop-i-init c =
    let s : Chain = chain_of c.args.self.now in
    first_none (inverse_fault s c.args.j) 0 (λ i l. absurd (omega arith))

pub returns-then-not-is_inverse : goal.returns-then-not-is_inverse
returns-then-not-is_inverse c =
    let s : Chain = chain_of c.args.self.now in
    let i = c.loop-i.i in
    let j = c.args.j in
    let test = inverse_test c.is_inverse.result c.row-q.result.q (modulus_at s j) c.row.result.q (modulus_at s i) c.entry.result (entry_at s i j) c.is_inverse.ensures (ap (λ (r : ModRow). r.q) c.row-q.ensures) (ap (λ (r : ModRow). r.q) c.row.ensures) c.entry.ensures in
    sym (first_found (inverse_fault s j) i j (Inverse i j) c.loop-i-test.true c.loop-i.invariant (wrong_inverse s j i (sym test ∙ c.if-not-is_inverse.true)))

pub loop-i-preserved : goal.loop-i-preserved
loop-i-preserved c =
    let s : Chain = chain_of c.args.self.now in
    let i = c.loop-i.i in
    let j = c.args.j in
    let test = inverse_test c.is_inverse.result c.row-q.result.q (modulus_at s j) c.row.result.q (modulus_at s i) c.entry.result (entry_at s i j) c.is_inverse.ensures (ap (λ (r : ModRow). r.q) c.row-q.ensures) (ap (λ (r : ModRow). r.q) c.row.ensures) c.entry.ensures in
    ap (λ n. first_below n (inverse_fault s j)) (add-one i) ∙ first_more (inverse_fault s j) i c.loop-i.invariant ∙ right_inverse s j i (sym test ∙ c.if-not-is_inverse.false)
