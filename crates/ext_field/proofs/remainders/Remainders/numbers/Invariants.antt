use Rattle.std.proofs.Common.{◌≡◌, map, take}
use Rattle.std.specs.List.{All}
use Rattle.ext_field.specs.Element.{IsElement, number}
use Rattle.ext_field.proofs.remainders.Remainders.numbers.Given as goal

abbrev pub invariant-loop-i : goal.invariant-loop-i
invariant-loop-i l =
    record {
      value : l.list.items ≡ map (number l.self) (take l.i l.coeffs);
      elements : All (λ a. IsElement l.self a) l.list.items;
    }
