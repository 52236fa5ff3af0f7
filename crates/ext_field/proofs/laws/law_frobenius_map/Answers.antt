use Rattle.ext_field.proofs.FrobeniusMap.{frobenius_law}
use Rattle.ext_field.proofs.laws.law_frobenius_map.Goals as goal

pub returns : goal.returns
returns c = frobenius_law
