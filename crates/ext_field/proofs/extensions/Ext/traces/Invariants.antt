use Rattle.std.proofs.Common.{◌≡◌, map, All, vec_len}
use Rattle.algebra.specs.Power.{power}
use Rattle.algebra.specs.Whole.{below}
use Rattle.ext_field.specs.Element.{IsElement, elements, eta, eta_power, trace}
use Rattle.ext_field.proofs.extensions.Ext.traces.Given as goal

abbrev pub invariant-loop-taken : goal.invariant-loop-taken
invariant-loop-taken l =
    record {
      value : l.traces.items ≡ map (λ k. trace l.self (eta_power l.self k)) (below l._taken);
      long : vec_len l.traces ≡ l._taken;
      traces_in : All (λ a. IsElement l.self a) l.traces.items;
      power_is : l.power ≡ power (elements l.self) (eta l.self) l._taken;
      power_in : IsElement l.self l.power;
    }
