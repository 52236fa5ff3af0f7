use Rattle.std.proofs.Common.{length, map, arith, ap, sym, subst, ◌∙◌}
use Rattle.std.proofs.lemmas.List.{with_items_is}
use Rattle.use_chain.specs.Uses.{without, AreApart}
use Rattle.use_chain.specs.Rings.{taken_out, lists, IsWhole}
use Rattle.use_chain.proofs.Answering.{holds_view, listed_within}
use Rattle.use_chain.proofs.RingLemmas.{lists_are, whole_from}
use Rattle.use_chain.proofs.Unlinking.{holds_without}
use Rattle.use_chain.proofs.UseLaws.{apart_from_whole}
use Rattle.use_chain.proofs.UseChain.unlink.Goals as goal

pub take_out-requires-clause-node : goal.take_out-requires-clause-node
take_out-requires-clause-node c =
    let h = holds_view c.self.inside.places c.self.inside.nodes.items c.args.self.now c.self.invariant.0 c.self.view_is in
    omega (arith, listed_within c.self.inside.places c.self.inside.nodes.items c.args.self.now c.args.node h c.requires, ap length c.deref_mut.ensures.value)

pub invariant_of-self : goal.invariant_of-self
invariant_of-self c =
    let ns = c.self.inside.nodes.items in
    let h = holds_view c.self.inside.places ns c.args.self.now c.self.invariant.0 c.self.view_is in
    let kept = with_items_is c.self.inside.nodes c.take_out.new.nodes (c.take_out.auto.nodes ∙ c.deref_mut.ensures.len) in
    let is = kept ∙ c.take_out.ensures ∙ ap (λ nodes. taken_out nodes c.args.node) c.deref_mut.ensures.value in
    let whole = whole_from c.self.inside.places (taken_out ns c.args.node) (map (without c.args.node) c.args.self.now) (holds_without c.self.inside.places ns c.args.self.now c.args.node h c.requires) in
    (subst (IsWhole c.self.inside.places) (sym is) whole, omega (arith, ap length kept, c.take_out.auto.nodes, ap length c.deref_mut.ensures.value, c.self.invariant.1))

pub returns-clause-without : goal.returns-clause-without
returns-clause-without c =
    let ns = c.self.inside.nodes.items in
    let h = holds_view c.self.inside.places ns c.args.self.now c.self.invariant.0 c.self.view_is in
    let kept = with_items_is c.self.inside.nodes c.take_out.new.nodes (c.take_out.auto.nodes ∙ c.deref_mut.ensures.len) in
    let is = kept ∙ c.take_out.ensures ∙ ap (λ nodes. taken_out nodes c.args.node) c.deref_mut.ensures.value in
    ap (lists c.self.inside.places) is ∙ lists_are c.self.inside.places (taken_out ns c.args.node) (map (without c.args.node) c.args.self.now) (holds_without c.self.inside.places ns c.args.self.now c.args.node h c.requires)

pub returns-clause-apart : goal.returns-clause-apart
returns-clause-apart c =
    let ns = c.self.inside.nodes.items in
    let h = holds_view c.self.inside.places ns c.args.self.now c.self.invariant.0 c.self.view_is in
    let kept = with_items_is c.self.inside.nodes c.take_out.new.nodes (c.take_out.auto.nodes ∙ c.deref_mut.ensures.len) in
    let is = kept ∙ c.take_out.ensures ∙ ap (λ nodes. taken_out nodes c.args.node) c.deref_mut.ensures.value in
    let whole = whole_from c.self.inside.places (taken_out ns c.args.node) (map (without c.args.node) c.args.self.now) (holds_without c.self.inside.places ns c.args.self.now c.args.node h c.requires) in
    subst (λ nodes. AreApart (lists c.self.inside.places nodes)) (sym is) (apart_from_whole c.self.inside.places (taken_out ns c.args.node) whole)
