use Rattle.noise_bound.proofs.BoundForms.{bound_of-value, value-bound_of}
use Rattle.noise_bound.proofs.laws.law_bound_of.Goals as goal

pub returns : goal.returns
returns c = record { back = bound_of-value; number = value-bound_of }
