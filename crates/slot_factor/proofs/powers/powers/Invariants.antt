use Rattle.std.proofs.Common.{◌≡◌}
use Rattle.algebra.specs.Power.{power}
use Rattle.ext_field.specs.Element.{IsElement, elements, eta}
use Rattle.slot_factor.specs.Tables.{ArePowers}
use Rattle.slot_factor.proofs.powers.powers.Given as goal

abbrev pub invariant-loop-step : goal.invariant-loop-step
invariant-loop-step l =
    record {
      powers : ArePowers l.ext l._step l.table.items;
      power : l.power ≡ power (elements l.ext) (eta l.ext) l._step;
      element : IsElement l.ext l.power;
    }
