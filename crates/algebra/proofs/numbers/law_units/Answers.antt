use Rattle.algebra.proofs.Units.{unit_of_inverse, inverse_of_unit, unit_of_test, unit_yes}
use Rattle.algebra.proofs.numbers.law_units.Goals as goal

pub returns : goal.returns
returns c = record { inverse = λ m k p q. (inverse_of_unit m k p q, unit_of_inverse m k); test = λ m k p q. (unit_of_test m k p q, unit_yes m k p) }
