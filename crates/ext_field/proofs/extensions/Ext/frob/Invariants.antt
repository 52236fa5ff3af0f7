use Rattle.std.proofs.Common.{◌≡◌}
use Rattle.ext_field.specs.Element.{IsElement, frob_times}
use Rattle.ext_field.proofs.extensions.Ext.frob.Given as goal

abbrev pub invariant-loop-taken : goal.invariant-loop-taken
invariant-loop-taken l =
    record {
      value : l.image ≡ frob_times l.self l._taken l.a;
      element : IsElement l.self l.image;
    }
