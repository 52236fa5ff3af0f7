use Rattle.std.proofs.Common.{◌<◌, get_or}
use Rattle.std.specs.List.{All}
use Rattle.ext_field.specs.Element.{eta_power, trace}
use Rattle.hyper_cube.specs.Tables.{IsFilled}
use Rattle.slot_factor.proofs.idempotents.constant_terms.Given as goal

abbrev pub invariant-loop-j : goal.invariant-loop-j
invariant-loop-j l =
    record {
      filled : IsFilled (λ j. get_or (trace l.ext (eta_power l.ext j)) 0 0) l.j l.terms.items;
      below : All (λ c. c < l.ext.p) l.terms.items;
    }
