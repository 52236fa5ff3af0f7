use Rattle.std.proofs.Common.{◌≡◌, ◌∙◌, map, ap, rules}
use Rattle.table_file.proofs.Checks.{dual_long, dual_below, packing_fault}
use Rattle.table_file.proofs.accepting.slots.Goals as goal

pub elements-requires-clause-long : goal.elements-requires-clause-long
elements-requires-clause-long c = dual_long c.args.document.now c.args.ext c.as_slice.result.now c.requires.document c.requires.ext (ap (map (λ row. row.items)) c.as_slice.ensures.value ∙ ap (λ t. t.dual) c.document.view_is)

pub elements-requires-clause-below : goal.elements-requires-clause-below
elements-requires-clause-below c = dual_below c.args.document.now c.args.ext c.as_slice.result.now c.requires.document c.requires.ext (ap (map (λ row. row.items)) c.as_slice.ensures.value ∙ ap (λ t. t.dual) c.document.view_is)

pub returns-in_err-slots-clause-gives : goal.returns-in_err-slots-clause-gives
returns-in_err-slots-clause-gives c =
    let dual_is : c.in_ok-dual.dual.items ≡ c.args.document.now.dual = c.in_ok-dual.ensures.value ∙ ap (map (λ row. row.items)) c.as_slice.ensures.value ∙ ap (λ t. t.dual) c.document.view_is in
    let refused = packing_fault c.args.document.now c.args.ext c.args.cube c.in_ok-dual.dual.items c.in_err-slots.field-0.0 c.requires.ext c.requires.cube dual_is c.in_err-slots.ensures.refused in
    search (rules, refused)
