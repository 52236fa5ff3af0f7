use Rattle.ext_field.specs.Laws.{element_laws}
use Rattle.ext_field.proofs.laws.law_elements.Goals as goal

pub returns : goal.returns
returns c = element_laws
