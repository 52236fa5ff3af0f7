use Rattle.scheme_laws.proofs.Fresh.{public_part_is_whole}
use Rattle.scheme_laws.proofs.scheme.law_public_part.Goals as goal

pub returns : goal.returns
returns c = public_part_is_whole
