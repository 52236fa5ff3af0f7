use Rattle.scheme_laws.proofs.Drawn.{draws_law}
use Rattle.scheme_laws.proofs.scheme.law_draws.Goals as goal

pub returns : goal.returns
returns c = draws_law
