use Rattle.mixed_radix.proofs.Sums.{digits_only, digits_value, basis_invertible}
use Rattle.mixed_radix.proofs.laws.law_digits.Goals as goal

pub returns : goal.returns
returns c = record { only = digits_only; value = digits_value; invertible = basis_invertible }
