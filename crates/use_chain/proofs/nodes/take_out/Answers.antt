use Rattle.use_chain.specs.Rings.{taken_out}
use Rattle.use_chain.proofs.nodes.take_out.Goals as goal

pub returns : goal.returns
unfolding taken_out
returns c = c.link.ensures
