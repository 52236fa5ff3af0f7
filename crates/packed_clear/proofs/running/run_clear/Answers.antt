use Rattle.std.proofs.Common.{◌∙◌}
use Rattle.packed_clear.proofs.RunSteps.{stepped, output}
use Rattle.packed_clear.proofs.running.run_clear.Goals as goal

pub loop-step-preserved : goal.loop-step-preserved
loop-step-preserved c =
    stepped c.args.slots.now.field c.args.slots.now.cube c.args.program.now c.args.inputs.now c.requires.program
    c.loop-step.step-index c.loop-step.values.items c.loop-step.left.now c.step-item.result c.deref-step-items.result.now c.as_slice.result.now
    c.push.new.self.items c.in_ok-value.value c.left_after-left.result.now
    c.loop-step.invariant (c.deref-step-items.ensures.value ∙ c.program.view_is) c.as_slice.ensures.value c.loop-step-test.true c.step-item.is
    c.in_ok-value.ensures c.in_ok-push.ensures.items c.left_after-left.ensures

pub returns-clause-value : goal.returns-clause-value
returns-clause-value c =
    output c.args.slots.now.field c.args.slots.now.cube c.args.program.now c.args.inputs.now c.requires.program
    c.loop-step.step-index c.loop-step.values.items c.loop-step.left.now c.deref-step-items.result.now c.len-last.result c.index.result.now c.as_slice-2.result.now c.decode.result
    c.loop-step.invariant (c.deref-step-items.ensures.value ∙ c.program.view_is) c.loop-step-test.false c.loop-step.auto.step-index-end
    (c.len-last.ensures ∙ c.loop-step.values.ok.0) c.index.ensures c.as_slice-2.ensures.value c.decode.ensures.value
