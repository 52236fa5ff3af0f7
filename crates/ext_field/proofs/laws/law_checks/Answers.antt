use Rattle.ext_field.proofs.Duals.{dual_fault_is}
use Rattle.ext_field.proofs.Images.{frobenius_test}
use Rattle.ext_field.proofs.laws.law_checks.Goals as goal

pub returns-clause-frobenius : goal.returns-clause-frobenius
returns-clause-frobenius c = frobenius_test

pub returns-clause-dual : goal.returns-clause-dual
returns-clause-dual c = λ f F dual. dual_fault_is f dual F
