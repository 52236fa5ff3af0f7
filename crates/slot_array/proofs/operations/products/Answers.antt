use Rattle.std.proofs.Common.{ap₂, sym, ◌∙◌}
use Rattle.ext_field.specs.Element.{elements}
use Rattle.slot_array.proofs.Filled.{filled_more, all_more}
use Rattle.slot_array.proofs.Formulas.{product_at, read_is, products_are, array_filled}
use Rattle.slot_array.proofs.operations.products.Goals as goal

pub loop-slot-preserved : goal.loop-slot-preserved
loop-slot-preserved c =
    let count = c.slot_count-slot-end.ensures.value in
    let a_is = read_is c.args.a.now _ c.loop-slot.slot c.slot_count-slot-end.result _ c.a.view_is (c.requires.a.long ∙ sym count) c.loop-slot-test.true c.index.ensures in
    let b_is = read_is c.args.b.now _ c.loop-slot.slot c.slot_count-slot-end.result _ c.b.view_is (c.requires.b.long ∙ sym count) c.loop-slot-test.true c.index-in-loop-slot.ensures in
    record {
      value = filled_more (product_at c.args.ext.now c.args.a.now c.args.b.now) c.loop-slot.slot _ _ _ (c.in_ok-next.ensures.value ∙ ap₂ (elements c.args.ext.now).mul a_is b_is) c.loop-slot.invariant.value c.in_ok-push.ensures.items;
      elements = all_more c.args.ext.now _ _ _ c.loop-slot.invariant.elements c.in_ok-next.ensures.held c.in_ok-push.ensures.items;
    }

pub returns-clause-value : goal.returns-clause-value
returns-clause-value c = products_are c.args.ext.now c.args.cube.now c.slot_count-slot-end.ensures.valid c.loop-slot.slot c.slot_count-slot-end.result c.loop-slot-test.false c.loop-slot.auto.slot-end c.slot_count-slot-end.ensures.value _ c.args.a.now c.args.b.now c.loop-slot.invariant.value

pub returns-clause-array : goal.returns-clause-array
returns-clause-array c = array_filled c.args.ext.now c.args.cube.now c.slot_count-slot-end.ensures.valid c.loop-slot.slot c.slot_count-slot-end.result c.loop-slot-test.false c.loop-slot.auto.slot-end c.slot_count-slot-end.ensures.value _ (product_at c.args.ext.now c.args.a.now c.args.b.now) c.loop-slot.invariant.value c.loop-slot.invariant.elements
