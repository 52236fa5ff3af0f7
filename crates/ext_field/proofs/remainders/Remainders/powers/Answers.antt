use Rattle.ext_field.proofs.Images.{one_value_more, power_more}
use Rattle.algebra.specs.Power.{power}
use Rattle.ext_field.specs.Element.{elements}
use Rattle.ext_field.proofs.remainders.Remainders.powers.Goals as goal

pub loop-taken-preserved : goal.loop-taken-preserved
loop-taken-preserved c =
    record {
      value = one_value_more (power (elements c.args.self.now) c.args.a.now) c.loop-taken._taken _ _ _ c.loop-taken.invariant.power c.loop-taken.invariant.value c.in_ok-push.ensures.items;
      power = power_more c.args.self.now c.args.a.now _ _ c.loop-taken._taken c.in_ok-next.ensures.value c.loop-taken.invariant.power;
      element = c.in_ok-next.ensures.held;
    }
