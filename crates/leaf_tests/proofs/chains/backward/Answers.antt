use Rattle.std.proofs.Common.{◌++◌, reverse, ap, sym, ◌∙◌}
use Rattle.std.proofs.lemmas.List.{reverse-reverse}
use Rattle.use_chain.specs.Uses.{list_of}
use Rattle.leaf_tests.proofs.ChainWalks.{last_split, last_none, reverse_push}
use Rattle.leaf_tests.proofs.chains.backward.Goals as goal

pub loop-at-preserved : goal.loop-at-preserved
loop-at-preserved c =
    let known = c.loop-at.invariant in
    let items = c.loop-at.nodes.items in
    let s = last_split (list_of c.args.chain.now c.args.value) known.0 (reverse items) c.in-Some.node known.1 (sym known.2 ∙ c.in-Some.is) in (
      s.0,
      s.1 ∙ ap (λ t. s.0 ++ t) (sym (ap reverse c.in_ok-push.ensures.items ∙ reverse_push items c.in-Some.node)),
      c.prev-at.ensures c.args.value s.0 (reverse items) s.1,
    )

pub returns : goal.returns
returns c =
    let known = c.loop-at.invariant in
    let items = c.loop-at.nodes.items in
    let none = last_none known.0 (sym known.2 ∙ c.in_default.is) in
    sym (ap reverse (known.1 ∙ ap (λ t. t ++ reverse items) none) ∙ reverse-reverse items)
