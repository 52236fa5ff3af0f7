use Rattle.residue_rows.proofs.ValuesKeep.{values_keep}
use Rattle.residue_rows.proofs.values.law_values_keep.Goals as goal

pub returns : goal.returns
returns c = values_keep
