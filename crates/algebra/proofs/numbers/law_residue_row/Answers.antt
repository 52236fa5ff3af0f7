use Rattle.algebra.proofs.Maps.{map_modulo}
use Rattle.algebra.proofs.WholeResidues.{residue_preserves}
use Rattle.algebra.proofs.numbers.law_residue_row.Goals as goal

pub returns : goal.returns
returns c = λ q p g. map_modulo (residue_preserves q p) g
