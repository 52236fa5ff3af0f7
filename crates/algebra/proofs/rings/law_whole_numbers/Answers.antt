use Rattle.algebra.proofs.Integers.{whole_laws}
use Rattle.algebra.proofs.rings.law_whole_numbers.Goals as goal

pub returns : goal.returns
returns c = whole_laws
