use Rattle.use_chain.proofs.UseLaws.{merges_ascending}
use Rattle.use_chain.proofs.law_merge.Goals as goal

pub returns : goal.returns
returns c = merges_ascending
