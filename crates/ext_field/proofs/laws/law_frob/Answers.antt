use Rattle.std.proofs.Common.{sym}
use Rattle.ext_field.proofs.Frobenius.{frob_is, frob_element}
use Rattle.ext_field.proofs.laws.law_frob.Goals as goal

pub returns-clause-value : goal.returns-clause-value
returns-clause-value c = λ f F a h. sym (frob_is f F a h)

pub returns-clause-element : goal.returns-clause-element
returns-clause-element c = frob_element
