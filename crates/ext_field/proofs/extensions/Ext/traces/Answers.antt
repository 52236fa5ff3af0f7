use Rattle.std.proofs.Common.{subst, arith}
use Rattle.ext_field.specs.Element.{IsElement, trace, eta_power}
use Rattle.ext_field.proofs.Images.{one_value_more, all_more, trace_more, root_more}
use Rattle.ext_field.proofs.extensions.Ext.traces.Goals as goal

pub loop-taken-preserved : goal.loop-taken-preserved
loop-taken-preserved c =
    record {
      value = one_value_more (λ k. trace c.args.self.now (eta_power c.args.self.now k)) c.loop-taken._taken _ _ _ (trace_more _ c.args.self.now c.self.view_is c.self.invariant.0 c.loop-taken._taken _ _ c.loop-taken.invariant.power_is c.in_ok-trace.ensures.value) c.loop-taken.invariant.value c.in_ok-push.ensures.items;
      long = omega (arith, c.in_ok-push.ensures.len, c.loop-taken.invariant.long);
      traces_in = all_more c.args.self.now _ _ _ c.loop-taken.invariant.traces_in c.in_ok-trace.ensures.element c.in_ok-push.ensures.items;
      power_is = root_more _ c.args.self.now c.self.view_is _ _ _ c.loop-taken._taken c.in_ok-root.ensures.value c.in_ok-power-2.ensures.value c.loop-taken.invariant.power_is;
      power_in = subst (λ g. IsElement g c.in_ok-power-2.power) c.self.view_is c.in_ok-power-2.ensures.held;
    }
