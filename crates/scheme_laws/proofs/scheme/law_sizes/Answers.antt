use Rattle.scheme_laws.proofs.SizesMade.{sizes_law}
use Rattle.scheme_laws.proofs.scheme.law_sizes.Goals as goal

pub returns : goal.returns
returns c = sizes_law
