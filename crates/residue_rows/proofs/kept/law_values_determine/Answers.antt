use Rattle.residue_rows.proofs.KeptValues.{values_determine}
use Rattle.residue_rows.proofs.kept.law_values_determine.Goals as goal

pub returns : goal.returns
returns c = values_determine
