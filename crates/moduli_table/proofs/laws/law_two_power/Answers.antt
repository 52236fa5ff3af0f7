use Rattle.moduli_table.proofs.TwoPowers.{only_two_power, two_power_next}
use Rattle.moduli_table.proofs.laws.law_two_power.Goals as goal

pub returns-clause-is : goal.returns-clause-is
returns-clause-is c = two_power_next

pub returns-clause-only : goal.returns-clause-only
returns-clause-only c = only_two_power
