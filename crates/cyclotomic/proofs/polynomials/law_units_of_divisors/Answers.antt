use Rattle.cyclotomic.proofs.Gauss.{sum_of_units}
use Rattle.cyclotomic.proofs.polynomials.law_units_of_divisors.Goals as goal

pub returns : goal.returns
returns c = sum_of_units
