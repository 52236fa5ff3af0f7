use Rattle.cyclotomic.proofs.PhiLaws.{phi_is_monic}
use Rattle.cyclotomic.proofs.polynomials.law_phi_is_monic.Goals as goal

pub returns : goal.returns
returns c = phi_is_monic
