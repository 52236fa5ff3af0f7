use Rattle.std.proofs.Common.{◌≡◌, All}
use Rattle.ext_field.specs.Element.{IsElement}
use Rattle.slot_array.proofs.Filled.{filled}
use Rattle.slot_array.proofs.Formulas.{image_at}
use Rattle.slot_array.proofs.operations.automorphism.Given as goal

abbrev pub invariant-loop-slot : goal.invariant-loop-slot
invariant-loop-slot l =
    record {
      value : l.elems.items ≡ filled (image_at l.ext l.cube l.a l.k) l.slot;
      elements : All (λ a. IsElement l.ext a) l.elems.items;
    }
