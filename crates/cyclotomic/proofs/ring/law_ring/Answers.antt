use Rattle.cyclotomic.proofs.Substitution.{ring_laws}
use Rattle.cyclotomic.proofs.ring.law_ring.Goals as goal

pub returns : goal.returns
returns c = ring_laws
