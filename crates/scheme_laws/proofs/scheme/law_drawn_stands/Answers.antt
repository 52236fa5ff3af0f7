use Rattle.scheme_laws.proofs.Fresh.{drawn_stands}
use Rattle.scheme_laws.proofs.scheme.law_drawn_stands.Goals as goal

pub returns : goal.returns
returns c = drawn_stands
