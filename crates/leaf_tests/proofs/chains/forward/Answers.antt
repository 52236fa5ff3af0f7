use Rattle.std.proofs.Common.{◌∷◌, [], ◌++◌, ap, sym, ◌∙◌, append_assoc}
use Rattle.std.proofs.lemmas.List.{append-nil}
use Rattle.use_chain.specs.Uses.{list_of}
use Rattle.leaf_tests.proofs.ChainWalks.{first_split, first_none}
use Rattle.leaf_tests.proofs.chains.forward.Goals as goal

pub loop-at-preserved : goal.loop-at-preserved
loop-at-preserved c =
    let known = c.loop-at.invariant in
    let items = c.loop-at.nodes.items in
    let s = first_split (list_of c.args.chain.now c.args.value) items known.0 c.in-Some.node known.1 (sym known.2 ∙ c.in-Some.is) in (
      s.0,
      s.1 ∙ sym (append_assoc items (c.in-Some.node ∷ []) s.0) ∙ ap (λ t. t ++ s.0) (sym c.in_ok-push.ensures.items),
      c.next-at.ensures c.args.value items s.0 s.1,
    )

pub returns : goal.returns
returns c =
    let known = c.loop-at.invariant in
    let items = c.loop-at.nodes.items in
    let none = first_none known.0 (sym known.2 ∙ c.in_default.is) in
    sym (known.1 ∙ ap (λ t. items ++ t) none ∙ append-nil items)
