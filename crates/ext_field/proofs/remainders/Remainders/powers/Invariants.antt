use Rattle.std.proofs.Common.{◌≡◌, map}
use Rattle.algebra.specs.Power.{power}
use Rattle.algebra.specs.Whole.{below}
use Rattle.ext_field.specs.Element.{IsElement, elements}
use Rattle.ext_field.proofs.remainders.Remainders.powers.Given as goal

abbrev pub invariant-loop-taken : goal.invariant-loop-taken
invariant-loop-taken l =
    record {
      value : l.powers.items ≡ map (power (elements l.self) l.a) (below l._taken);
      power : l.power ≡ power (elements l.self) l.a l._taken;
      element : IsElement l.self l.power;
    }
