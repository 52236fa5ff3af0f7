use Rattle.cyclotomic.proofs.Substitution.{phi_divides_image_list}
use Rattle.cyclotomic.proofs.polynomials.law_phi_divides_image.Goals as goal

pub returns : goal.returns
returns c = phi_divides_image_list
