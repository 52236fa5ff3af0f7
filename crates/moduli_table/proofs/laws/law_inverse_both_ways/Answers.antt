use Rattle.moduli_table.proofs.Turned.{turned_inverse}
use Rattle.moduli_table.proofs.laws.law_inverse_both_ways.Goals as goal

pub returns : goal.returns
returns c = turned_inverse
