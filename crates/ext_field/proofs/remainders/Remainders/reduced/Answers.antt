use Rattle.ext_field.proofs.Reduced.{reduced_element}
use Rattle.ext_field.proofs.remainders.Remainders.reduced.Goals as goal

pub returns-clause-element : goal.returns-clause-element
returns-clause-element c = reduced_element _ c.args.self.now _ c.args.coeffs.items c.self.view_is c.in_ok-_quotient.ensures.remainder c.self.invariant.0 c.requires
