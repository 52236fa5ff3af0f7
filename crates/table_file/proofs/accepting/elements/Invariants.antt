use Rattle.std.proofs.Common.{◌≡◌, All, map, take}
use Rattle.ext_field.specs.Element.{IsElement}
use Rattle.table_file.proofs.accepting.elements.Given as goal

abbrev pub invariant-loop-row : goal.invariant-loop-row
invariant-loop-row l =
    record {
      value : l.list.items ≡ map (λ row. row.items) (take l.row-index l.rows);
      held : All (λ a. IsElement l.ext a) l.list.items;
    }
