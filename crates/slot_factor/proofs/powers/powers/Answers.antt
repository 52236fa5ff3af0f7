use Rattle.slot_factor.proofs.PowerSteps.{powers_more, next_power}
use Rattle.slot_factor.proofs.powers.powers.Goals as goal

pub loop-step-preserved : goal.loop-step-preserved
loop-step-preserved c = record {
  powers = powers_more c.args.ext.now c.requires.valid.factor c.loop-step._step c.loop-step.power c.loop-step.table.items c.in_ok-table.table.items c.loop-step.invariant.powers c.loop-step.invariant.power c.in_ok-table.ensures;
  power = next_power c.args.ext.now c.loop-step._step c.loop-step.power c.args.root.now c.in_ok-power-2.power c.in_ok-power-2.ensures.value c.requires.root c.loop-step.invariant.power;
  element = c.in_ok-power-2.ensures.held;
}
