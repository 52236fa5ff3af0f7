use Rattle.residue_rows.proofs.ValuesMean.{values_are}
use Rattle.residue_rows.proofs.values.law_values.Goals as goal

pub returns : goal.returns
returns c = values_are
