use Rattle.std.proofs.Common.{arith}
use Rattle.use_chain.proofs.Answering.{holds_view, prev_is, listed_within}
use Rattle.use_chain.proofs.UseChain.prev.Goals as goal

pub index-requires : goal.index-requires
index-requires c =
    let h = holds_view c.self.inside.places c.self.inside.nodes.items c.args.self.now c.self.invariant.0 c.self.view_is in
    omega (arith, listed_within c.self.inside.places c.self.inside.nodes.items c.args.self.now c.args.node h c.requires)

pub returns : goal.returns
returns c =
    let h = holds_view c.self.inside.places c.self.inside.nodes.items c.args.self.now c.self.invariant.0 c.self.view_is in
    prev_is c.self.inside.places c.self.inside.nodes.items c.args.self.now c.args.node c.index.result.now c.place.result h c.index.ensures (listed_within c.self.inside.places c.self.inside.nodes.items c.args.self.now c.args.node h c.requires) c.place.ensures
