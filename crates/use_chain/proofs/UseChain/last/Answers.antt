use Rattle.use_chain.proofs.Answering.{holds_view, last_is}
use Rattle.use_chain.proofs.UseChain.last.Goals as goal

pub returns : goal.returns
returns c =
    let h = holds_view c.self.inside.places c.self.inside.nodes.items c.args.self.now c.self.invariant.0 c.self.view_is in
    last_is c.self.inside.places c.self.inside.nodes.items c.args.self.now c.args.value c.index.result.now c.place.result h c.requires c.index.ensures c.place.ensures
