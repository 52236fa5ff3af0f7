use Rattle.slot_array.proofs.Formulas.{negative_at, negatives_are, array_filled}
use Rattle.slot_array.proofs.operations.negatives.Goals as goal

pub returns-clause-value : goal.returns-clause-value
returns-clause-value c = negatives_are c.args.ext.now c.args.cube.now c.slot_count-slot-end.ensures.valid c.loop-slot.slot c.slot_count-slot-end.result c.loop-slot-test.false c.loop-slot.auto.slot-end c.slot_count-slot-end.ensures.value _ c.args.a.now c.loop-slot.invariant.value

pub returns-clause-array : goal.returns-clause-array
returns-clause-array c = array_filled c.args.ext.now c.args.cube.now c.slot_count-slot-end.ensures.valid c.loop-slot.slot c.slot_count-slot-end.result c.loop-slot-test.false c.loop-slot.auto.slot-end c.slot_count-slot-end.ensures.value _ (negative_at c.args.ext.now c.args.a.now) c.loop-slot.invariant.value c.loop-slot.invariant.elements
