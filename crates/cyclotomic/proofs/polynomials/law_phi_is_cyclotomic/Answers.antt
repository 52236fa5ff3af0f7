use Rattle.cyclotomic.proofs.PhiLaws.{phi_is_cyclotomic}
use Rattle.cyclotomic.proofs.polynomials.law_phi_is_cyclotomic.Goals as goal

pub returns : goal.returns
returns c = phi_is_cyclotomic
