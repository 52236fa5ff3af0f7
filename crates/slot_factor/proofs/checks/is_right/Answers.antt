use Rattle.std.proofs.Common.{refl, arith}
use Rattle.hyper_cube.specs.Torus.{index}
use Rattle.slot_laws.specs.Slots.{eps}
use Rattle.slot_factor.proofs.UnitSteps.{unit_below}
use Rattle.slot_factor.proofs.CheckSteps.{right_test, slot_from, unit_first, unit_other}
use Rattle.slot_factor.proofs.checks.is_right.Goals.{then-slot-eq0+in_ok-wanted, else-slot-eq0+in_ok-wanted-2}
use Rattle.slot_factor.proofs.checks.is_right.Goals as goal

pub value-requires-clause-small : goal.value-requires-clause-small
value-requires-clause-small c = unit_below c.args.ext.now c.args.cube.now c.args.unit.now c.args.ext.now.p (omega (arith, c.requires.valid.factor.p_low)) refl c.requires.unit

pub returns : goal.returns
returns c =
    let f = c.args.ext.now in
    let k = c.args.cube.now in
    right_test f k c.args.slot c.equal-holds.result c.in_ok-value.value c.if-slot-eq0.wanted c.equal-holds.ensures
    (slot_from f k c.requires.valid.factor (omega (arith, c.m.ensures.valid.shape.m_low)) c.requires.root (eps f k) (index k.dimensions c.args.slot) c.m.result c.element.result c.args.unit.now c.in_ok-value.value c.m.ensures.value c.element.ensures.value c.requires.unit c.in_ok-value.ensures.value)
    (elim c.if-slot-eq0.branch [
      | then-slot-eq0+in_ok-wanted w ↦ unit_first f k c.args.slot c.if-slot-eq0.wanted _ w.wanted-is w.in_ok-wanted.ensures.value w.if-slot-eq0.true
      | else-slot-eq0+in_ok-wanted-2 w ↦ unit_other f k c.args.slot c.if-slot-eq0.wanted _ w.wanted-is w.in_ok-wanted-2.ensures.value w.if-slot-eq0.false
    ])
