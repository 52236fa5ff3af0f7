use Rattle.std.proofs.Common.{◌≡◌, map, All}
use Rattle.algebra.specs.Whole.{below}
use Rattle.ext_field.specs.Element.{IsElement, frob_times}
use Rattle.ext_field.proofs.extensions.Ext.images.Given as goal

abbrev pub invariant-loop-taken : goal.invariant-loop-taken
invariant-loop-taken l =
    record {
      value : l.images.items ≡ map (λ j. frob_times l.self j l.a) (below l._taken);
      elements : All (λ a. IsElement l.self a) l.images.items;
      image : l.image ≡ frob_times l.self l._taken l.a;
      element : IsElement l.self l.image;
    }
