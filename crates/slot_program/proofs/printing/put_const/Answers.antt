use Rattle.std.proofs.Common.{◌≡◌, ◌++◌, map, ap, ◌∙◌}
use Rattle.std.proofs.lemmas.List.{map-id}
use Rattle.slot_program.specs.Printed.{value_name, runs_of}
use Rattle.slot_program.proofs.PrintSteps.{items_text, const_put}
use Rattle.slot_program.proofs.printing.put_const.Goals as goal

pub returns : goal.returns
returns c =
    let elems : map (λ elem. elem) c.as_slice.result.now ≡ c.args.elems.now = ap (map (λ elem. elem)) c.as_slice.ensures.value ∙ map-id c.elems.inside.elems.items ∙ c.elems.view_is in
    let items : c.put_items.new.out.items ≡ c.put_plain.new.out.items ++ items_text (runs_of c.args.elems.now) =
    c.in_ok-put_items.ensures ∙ ap (λ list. c.put_plain.new.out.items ++ items_text (runs_of list)) elems in
    const_put c.args.out.now.items c.put_plain.new.out.items c.put_items.new.out.items (value_name c.args.i) (runs_of c.args.elems.now) c.in_ok-put_plain.ensures items
