use Rattle.std.proofs.Common.{◌∙◌}
use Rattle.slot_array.proofs.Filled.{filled_more, all_more}
use Rattle.slot_array.proofs.Formulas.{image_at, read_is, image_step, images_are, array_filled, reduced_unit, reduced_place}
use Rattle.slot_array.proofs.operations.automorphism.Goals as goal

pub locate-from-requires-clause-unit : goal.locate-from-requires-clause-unit
locate-from-requires-clause-unit c = reduced_unit c.args.cube.now c.m-m.ensures.valid c.element.result c.args.k c.m-m.result c.m-m.ensures.value c.element.ensures.unit c.requires.unit

pub loop-slot-preserved : goal.loop-slot-preserved
loop-slot-preserved c =
    let a_is = read_is c.args.a.now _ _ _ _ c.a.view_is c.requires.a.long c.locate-from.ensures.slot c.index.ensures in
    record {
      value = filled_more (image_at c.args.ext.now c.args.cube.now c.args.a.now c.args.k) c.loop-slot.slot _ _ _ (image_step c.args.ext.now c.args.cube.now c.args.a.now c.args.k c.loop-slot.slot _ _ _ c.element.ensures.value c.locate-from.ensures.power (c.locate-from.ensures.place ∙ reduced_place c.args.cube.now c.element.result c.args.k c.m-m.result c.m-m.ensures.value) _ _ a_is c.in_ok-next.ensures.value) c.loop-slot.invariant.value c.in_ok-push.ensures.items;
      elements = all_more c.args.ext.now _ _ _ c.loop-slot.invariant.elements c.in_ok-next.ensures.element c.in_ok-push.ensures.items;
    }

pub returns-clause-value : goal.returns-clause-value
returns-clause-value c = images_are c.args.ext.now c.args.cube.now c.slot_count-slot-end.ensures.valid c.loop-slot.slot c.slot_count-slot-end.result c.loop-slot-test.false c.loop-slot.auto.slot-end c.slot_count-slot-end.ensures.value _ c.args.a.now c.args.k c.loop-slot.invariant.value

pub returns-clause-array : goal.returns-clause-array
returns-clause-array c = array_filled c.args.ext.now c.args.cube.now c.slot_count-slot-end.ensures.valid c.loop-slot.slot c.slot_count-slot-end.result c.loop-slot-test.false c.loop-slot.auto.slot-end c.slot_count-slot-end.ensures.value _ (image_at c.args.ext.now c.args.cube.now c.args.a.now c.args.k) c.loop-slot.invariant.value c.loop-slot.invariant.elements
