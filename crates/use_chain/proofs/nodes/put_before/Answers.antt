use Rattle.std.proofs.Common.{ap, ◌∙◌}
use Rattle.use_chain.specs.Rings.{linked, put_before}
use Rattle.use_chain.proofs.nodes.put_before.Goals as goal

pub returns : goal.returns
unfolding put_before
returns c = c.link-2.ensures ∙ ap (λ nodes. linked nodes c.args.node c.args.at) c.link.ensures
