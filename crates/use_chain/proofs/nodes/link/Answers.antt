use Rattle.std.proofs.Common.{refl}
use Rattle.use_chain.specs.Rings.{linked}
use Rattle.use_chain.proofs.nodes.link.Goals as goal

pub returns : goal.returns
unfolding linked
returns c = refl
