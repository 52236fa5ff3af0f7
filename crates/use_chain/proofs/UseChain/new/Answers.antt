use Rattle.std.proofs.Common.{◌*◌, length, arith, ap, sym, subst, ◌∙◌}
use Rattle.std.proofs.lemmas.List.{with_items_is}
use Rattle.std.proofs.lemmas.List.FromFn.{length-map-range_with_len}
use Rattle.use_chain.specs.Uses.{AreApart}
use Rattle.use_chain.specs.Rings.{alone, lists, IsWhole}
use Rattle.use_chain.proofs.Building.{length-uses_below}
use Rattle.use_chain.proofs.UseLaws.{apart_from_whole}
use Rattle.use_chain.proofs.UseChain.new.Goals as goal

pub invariant_of-result : goal.invariant_of-result
invariant_of-result c =
    let count = length c.args.steps.now in
    let kept = with_items_is c.in_ok-nodes.nodes c.add_uses.new.nodes (c.add_uses.auto.nodes ∙ c.deref_mut.ensures.len) in (
      subst (IsWhole (2 * count)) (sym kept) c.add_uses.ensures.whole,
      omega (arith, ap length kept, c.add_uses.auto.nodes, ap length c.deref_mut.ensures.value, ap length c.in_ok-nodes.ensures, length-map-range_with_len alone 0 (3 * count)),
    )

pub returns-clause-apart : goal.returns-clause-apart
returns-clause-apart c =
    let count = length c.args.steps.now in
    let kept = with_items_is c.in_ok-nodes.nodes c.add_uses.new.nodes (c.add_uses.auto.nodes ∙ c.deref_mut.ensures.len) in
    subst (λ nodes. AreApart (lists (2 * count) nodes)) (sym kept) (apart_from_whole (2 * count) c.add_uses.new.nodes c.add_uses.ensures.whole)

pub returns-clause-len : goal.returns-clause-len
returns-clause-len c =
    let count = length c.args.steps.now in
    let kept = with_items_is c.in_ok-nodes.nodes c.add_uses.new.nodes (c.add_uses.auto.nodes ∙ c.deref_mut.ensures.len) in
    ap (λ nodes. length (lists (2 * count) nodes)) kept ∙ ap length c.add_uses.ensures.lists ∙ length-uses_below c.args.steps.now (2 * count)
