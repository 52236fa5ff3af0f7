use Rattle.std.proofs.Common.{◌*◌, ◌%◌, get_or, arith, ap, ◌∙◌}
use Rattle.two_power.proofs.Loops.{changed_more, changed_below}
use Rattle.two_power.proofs.cyclic.multiply.Goals as goal

pub loop-i-preserved : goal.loop-i-preserved
loop-i-preserved c =
    let i = c.loop-i.i in
    changed_more c.args.q (2 * c.args.q) i c.mul_lazy.result (λ k. get_or c.args.factors.now k 0 * get_or c.args.row.now k 0) c.args.row.now c.loop-i.row (omega arith) c.loop-i.invariant (c.mul_lazy.ensures.value ∙ ap (λ z. (get_or c.args.factors.now i 0 * z) % c.args.q) (c.loop-i.invariant.rest i (omega arith))) c.mul_lazy.ensures.below

pub returns-clause-value : goal.returns-clause-value
returns-clause-value c = λ k l. c.loop-i.invariant.done k (omega arith)

pub returns-clause-below : goal.returns-clause-below
returns-clause-below c = changed_below c.args.q (2 * c.args.q) c.loop-i.i (λ k. get_or c.args.factors.now k 0 * get_or c.args.row.now k 0) c.args.row.now c.loop-i.row (omega arith) (omega arith) c.loop-i.invariant
