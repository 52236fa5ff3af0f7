use Rattle.std.proofs.Common.{ℕ, List, map, ap, ◌∙◌}
use Rattle.ext_field.specs.Element.{Extension, elements, is_element}
use Rattle.ext_field.proofs.Reduced.{ring_held, factor_seen}
use Rattle.ext_field.proofs.remainders.Remainders.of_lists.Goals as goal

pub new-requires-clause-held : goal.new-requires-clause-held
new-requires-clause-held c = ring_held _ c.args.coeffs.items c.args.twin.items c.requires.monic c.requires.same

pub invariant_of-result : goal.invariant_of-result
invariant_of-result c =
    let seen : List ℕ → Extension = λ xs. record { p = c.args.zq.q; factor = map (λ n. n) xs } in
    (factor_seen _ c.args.coeffs.items c.requires.monic, c.in_ok-ring.ensures.valid, c.in_ok-ring.ensures.ops ∙ ap (λ xs. elements (seen xs)) c.requires.same, c.in_ok-ring.ensures.held ∙ ap (λ xs. is_element (seen xs)) c.requires.same)
