use Rattle.use_chain.proofs.UseLaws.{walks_forward, walks_backward}
use Rattle.use_chain.proofs.law_walk.Goals as goal

pub returns-clause-forward : goal.returns-clause-forward
returns-clause-forward c = walks_forward

pub returns-clause-backward : goal.returns-clause-backward
returns-clause-backward c = walks_backward
