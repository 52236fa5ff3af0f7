use Rattle.moduli_table.proofs.Bases.{finds_least}
use Rattle.moduli_table.proofs.laws.law_least_base.Goals as goal

pub returns : goal.returns
returns c = finds_least
