use Rattle.std.proofs.Common.{◌*◌, ◌%◌, ap, refl, ◌∙◌, arith}
use Rattle.ext_field.specs.Element.{eta_power}
use Rattle.slot_factor.proofs.PowerSteps.{row_is, power_below, sums_room, terms_small, terms_more}
use Rattle.slot_factor.proofs.RowSteps.{step_more}
use Rattle.slot_factor.proofs.powers.add_terms.Goals as goal

pub add_multiple-requires-clause-row_in : goal.add_multiple-requires-clause-row_in
add_multiple-requires-clause-row_in c = power_below c.args.ext.now c.requires.valid.factor c.loop-i.place _ (row_is c.args.ext.now c.args.m c.loop-i.place c.degree-d.result c.args.powers.now c.requires.powers c.loop-i.invariant.within c.degree-d.ensures.value)

pub add_multiple-requires-clause-room : goal.add_multiple-requires-clause-room
add_multiple-requires-clause-room c = sums_room c.args.ext.now c.requires.valid.factor c.loop-i.sums c.loop-i.i (omega (arith, c.loop-i-test.true, c.requires.few)) c.loop-i.invariant.small

pub loop-i-preserved : goal.loop-i-preserved
loop-i-preserved c =
    let f = c.args.ext.now in
    let M = c.requires.valid.factor in
    let k = c.loop-i.place in
    let row = row_is f c.args.m k c.degree-d.result c.args.powers.now c.requires.powers c.loop-i.invariant.within c.degree-d.ensures.value ∙ ap (eta_power f) c.loop-i.invariant.place in
    record {
      value = terms_more f M c.args.m c.args.t c.args.a.now c.loop-i.i _ _ c.loop-i.sums c.add_multiple.new.sums (omega (arith, c.loop-i-test.true)) row c.add_multiple.ensures c.loop-i.invariant.value;
      small = terms_small f M c.args.a.now c.loop-i.i _ ((c.loop-i.i * c.args.t) % c.args.m) _ c.loop-i.sums c.add_multiple.new.sums c.requires.small (omega (arith, c.loop-i-test.true)) row c.add_multiple.ensures c.loop-i.invariant.small;
      place = step_more c.args.m c.args.t c.loop-i.i k (c.args.t % c.args.m) c.next_place-place.result c.loop-i.invariant.place refl c.next_place-place.ensures.value;
      within = c.next_place-place.ensures.below;
    }
