use Rattle.moduli_table.proofs.Omega.{are_roots}
use Rattle.moduli_table.proofs.laws.law_differences.Goals as goal

pub returns : goal.returns
returns c = are_roots
