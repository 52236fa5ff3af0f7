use Rattle.plain_machine.proofs.Carried.{history}
use Rattle.plain_machine.proofs.laws.law_history.Goals as goal

pub returns : goal.returns
returns c = history c.lower.ensures
