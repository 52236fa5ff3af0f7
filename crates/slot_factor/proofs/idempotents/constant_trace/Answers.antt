use Rattle.std.proofs.Common.{arith}
use Rattle.slot_factor.proofs.TraceSteps.{product_below, products_more, trace_constant}
use Rattle.slot_factor.proofs.idempotents.constant_trace.Goals as goal

pub overflow_mul-sum : goal.overflow_mul-sum
overflow_mul-sum c = omega (arith, product_below c.args.ext.now c.requires.valid c.args.row.now c.args.terms.now c.loop-j.j 0 0 c.requires.row_in c.requires.terms (omega (arith, c.loop-j-test.true)))

pub overflow_add-sum : goal.overflow_add-sum
overflow_add-sum c = omega (arith, c.loop-j.invariant.small, c.loop-j-test.true, c.requires.terms.filled.long, c.requires.valid.factor.degree_high, product_below c.args.ext.now c.requires.valid c.args.row.now c.args.terms.now c.loop-j.j 0 0 c.requires.row_in c.requires.terms (omega (arith, c.loop-j-test.true)))

pub loop-j-preserved : goal.loop-j-preserved
loop-j-preserved c = record {
  value = products_more c.args.ext.now c.requires.valid c.args.row.now c.args.terms.now c.loop-j.j _ _ c.loop-j.sum c.requires.row_in c.requires.terms (omega (arith, c.loop-j-test.true)) c.loop-j.invariant.value;
  small = omega (arith, c.loop-j.invariant.small, product_below c.args.ext.now c.requires.valid c.args.row.now c.args.terms.now c.loop-j.j 0 0 c.requires.row_in c.requires.terms (omega (arith, c.loop-j-test.true)));
}

pub returns-clause-value : goal.returns-clause-value
returns-clause-value c = trace_constant c.args.ext.now c.requires.valid c.args.row.now c.args.terms.now c.loop-j.sum c.p.result c.loop-j.j c.requires.row_in c.requires.terms c.loop-j.invariant.value (omega (arith, c.loop-j-test.false, c.loop-j.auto.j-end, c.requires.terms.filled.long)) c.p.ensures.value
