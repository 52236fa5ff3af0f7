use Rattle.std.proofs.Common.{◌≡◌, ◌≤◌, All, Some, map, length, take}
use Rattle.std.specs.List.{AllZip}
use Rattle.ext_field.specs.Element.{IsElement}
use Rattle.slot_array.specs.SlotsText.{element_of}
use Rattle.slot_array.proofs.texts.first_elements.Given as goal

abbrev pub invariant-loop-line : goal.invariant-loop-line
invariant-loop-line l =
    record {
      long : length l.elems.items ≡ l.line-index;
      few : l.line-index ≤ l.most;
      written : AllZip (λ line x. element_of l.ext line ≡ Some x) (take l.line-index (map (λ line. line.items) l.lines)) l.elems.items;
      elements : All (λ a. IsElement l.ext a) l.elems.items;
    }
