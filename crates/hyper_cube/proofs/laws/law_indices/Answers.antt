use Rattle.hyper_cube.proofs.Numbering.{is_numbering}
use Rattle.hyper_cube.proofs.laws.law_indices.Goals as goal

pub returns : goal.returns
returns c = is_numbering
