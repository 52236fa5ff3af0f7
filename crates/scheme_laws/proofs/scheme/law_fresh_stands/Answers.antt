use Rattle.scheme_laws.proofs.Fresh.{fresh_stands}
use Rattle.scheme_laws.proofs.scheme.law_fresh_stands.Goals as goal

pub returns : goal.returns
returns c = fresh_stands
