use Rattle.algebra.proofs.Ranges.{count_laws}
use Rattle.algebra.proofs.rings.law_counts.Goals as goal

pub returns : goal.returns
returns c = count_laws
