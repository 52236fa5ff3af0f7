use Rattle.line_text.proofs.NameTests.{spells_itself}
use Rattle.line_text.proofs.names.law_names.Goals as goal

pub returns : goal.returns
returns c = spells_itself
