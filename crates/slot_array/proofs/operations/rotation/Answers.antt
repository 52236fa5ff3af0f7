use Rattle.std.proofs.Common.{◌∙◌}
use Rattle.slot_array.proofs.Filled.{filled_more}
use Rattle.slot_array.proofs.Formulas.{turned_at, read_is, turned_step, turns_are, turned_array}
use Rattle.slot_array.proofs.operations.rotation.Goals as goal

pub loop-slot-preserved : goal.loop-slot-preserved
loop-slot-preserved c =
    let a_is = read_is c.args.a.now _ _ _ _ c.a.view_is c.requires.a c.moved-from.ensures.below c.index.ensures in
    filled_more (turned_at c.args.cube.now c.args.a.now c.args.dim c.args.amount) c.loop-slot.slot _ _ _ (c.in_ok-next.ensures ∙ turned_step c.args.cube.now c.args.a.now c.args.dim c.args.amount c.loop-slot.slot _ _ _ _ c.size-size.ensures c.coordinate.ensures.value c.moved-from.ensures.value a_is) c.loop-slot.invariant c.in_ok-push.ensures.items

pub returns-clause-value : goal.returns-clause-value
returns-clause-value c = λ f. turns_are f c.args.cube.now c.slot_count-slots.ensures.valid c.loop-slot.slot c.slot_count-slots.result c.loop-slot-test.false c.loop-slot.auto.slot-end c.slot_count-slots.ensures.value _ c.args.a.now c.args.dim c.args.amount c.loop-slot.invariant

pub returns-clause-array : goal.returns-clause-array
returns-clause-array c = λ f A. turned_array f c.args.cube.now c.slot_count-slots.ensures.valid c.loop-slot.slot c.slot_count-slots.result c.loop-slot-test.false c.loop-slot.auto.slot-end c.slot_count-slots.ensures.value _ c.args.a.now A c.args.dim c.args.amount c.requires.dim c.loop-slot.invariant
