use Rattle.cyclotomic.proofs.PhiLaws.{degree_is_units}
use Rattle.cyclotomic.proofs.polynomials.law_degree_is_units.Goals as goal

pub returns : goal.returns
returns c = degree_is_units
