use Rattle.std.proofs.Common.{◌+◌, ◌∷◌, [], ◌++◌, set, ap, sym, subst, ◌∙◌}
use Rattle.use_chain.specs.Uses.{list_of}
use Rattle.use_chain.specs.Rings.{put_before, lists, with_use, IsWhole}
use Rattle.use_chain.proofs.Building.{holds_appended}
use Rattle.use_chain.proofs.RingLemmas.{lists_are, whole_from}
use Rattle.use_chain.proofs.nodes.append.Goals as goal

pub returns-in-Some-clause-whole : goal.returns-in-Some-clause-whole
returns-in-Some-clause-whole c =
    let uses = lists c.args.places c.args.nodes.now in
    let v = c.in-Some.value in
    let hv = rw c.in-Some.is at c.requires.value in
    let h = holds_appended c.args.places c.args.nodes.now uses v c.args.node c.requires.whole hv c.requires.within c.requires.later in
    subst (IsWhole c.args.places) (sym c.put_before.ensures) (whole_from c.args.places (put_before c.args.nodes.now (c.args.places + v) c.args.node) (set uses v (list_of uses v ++ c.args.node ∷ [])) h)

pub returns-in-Some-clause-lists : goal.returns-in-Some-clause-lists
returns-in-Some-clause-lists c =
    let uses = lists c.args.places c.args.nodes.now in
    let v = c.in-Some.value in
    let hv = rw c.in-Some.is at c.requires.value in
    let h = holds_appended c.args.places c.args.nodes.now uses v c.args.node c.requires.whole hv c.requires.within c.requires.later in
    ap (lists c.args.places) c.put_before.ensures
    ∙ lists_are c.args.places (put_before c.args.nodes.now (c.args.places + v) c.args.node) (set uses v (list_of uses v ++ c.args.node ∷ [])) h
    ∙ ap (λ o. with_use uses o c.args.node) (sym c.in-Some.is)
