use Rattle.std.proofs.Common.{sym, subst, ◌∙◌}
use Rattle.std.proofs.lemmas.List.{with_items_is}
use Rattle.use_chain.specs.Uses.{AreApart}
use Rattle.use_chain.specs.Rings.{lists}
use Rattle.use_chain.proofs.UseLaws.{apart_from_whole}
use Rattle.use_chain.proofs.UseChain.replace_all.Goals as goal

pub returns-clause-apart : goal.returns-clause-apart
returns-clause-apart c =
    let kept = with_items_is c.self.inside.nodes c.merge.new.nodes (c.merge.auto.nodes ∙ c.deref_mut.ensures.len) in
    subst (λ nodes. AreApart (lists c.self.inside.places nodes)) (sym kept) (apart_from_whole c.self.inside.places c.merge.new.nodes c.merge.ensures.whole)
