use Rattle.cyclotomic.proofs.PhiLaws.{phi_is_only}
use Rattle.cyclotomic.proofs.polynomials.law_phi_is_only.Goals as goal

pub returns : goal.returns
returns c = phi_is_only
