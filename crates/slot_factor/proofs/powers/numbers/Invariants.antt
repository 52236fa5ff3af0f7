use Rattle.std.proofs.Common.{◌≡◌, map, take}
use Rattle.std.specs.List.{All}
use Rattle.ext_field.specs.Element.{IsElement, number}
use Rattle.slot_factor.proofs.powers.numbers.Given as goal

abbrev pub invariant-loop-i : goal.invariant-loop-i
invariant-loop-i l =
    record {
      value : l.list.items ≡ map (number l.ext) (take l.i l.a);
      elements : All (λ a. IsElement l.ext a) l.list.items;
    }
