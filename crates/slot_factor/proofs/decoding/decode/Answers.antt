use Rattle.std.proofs.Common.{map, ap, ◌∙◌, arith}
use Rattle.algebra.specs.Whole.{residue}
use Rattle.hyper_cube.specs.Torus.{index}
use Rattle.slot_laws.specs.Slots.{slot_of}
use Rattle.slot_factor.proofs.CheckSteps.{slot_from}
use Rattle.slot_factor.proofs.DecodeSteps.{listed_more, slots_listed, array_listed}
use Rattle.slot_factor.proofs.decoding.decode.Goals as goal

pub loop-slot-preserved : goal.loop-slot-preserved
loop-slot-preserved c =
    let f = c.args.ext.now in
    let k = c.args.cube.now in
    listed_more (λ j. slot_of f k c.args.a.now (index k.dimensions j)) c.loop-slot.slot c.in_ok-elem.elem c.loop-slot.elems.items c.push.new.self.items c.loop-slot.invariant c.in_ok-push.ensures.items
    (slot_from f k c.requires.packing.extension.factor (omega (arith, c.requires.packing.cube.low)) c.requires.packing.phi_factor c.args.a.now (index k.dimensions c.loop-slot.slot) c.m-m.result c.element.result c.deref.result.now c.in_ok-elem.elem c.m-m.ensures.value c.element.ensures.value (c.deref.ensures.value ∙ c.in_ok-residues.ensures.value ∙ ap (λ q. map (residue q) c.args.a.now) c.requires.same_q) c.in_ok-elem.ensures.value)

pub returns-clause-value : goal.returns-clause-value
returns-clause-value c = slots_listed c.args.ext.now c.args.cube.now c.args.a.now c.loop-slot.slot c.loop-slot.elems.items (omega (arith, c.loop-slot-test.false, c.loop-slot.auto.slot-end, c.slot_count-slot-end.ensures.value)) c.loop-slot.invariant

pub returns-clause-array : goal.returns-clause-array
returns-clause-array c = array_listed c.args.ext.now c.args.cube.now c.requires.packing c.args.a.now _ (slots_listed c.args.ext.now c.args.cube.now c.args.a.now c.loop-slot.slot c.loop-slot.elems.items (omega (arith, c.loop-slot-test.false, c.loop-slot.auto.slot-end, c.slot_count-slot-end.ensures.value)) c.loop-slot.invariant)
