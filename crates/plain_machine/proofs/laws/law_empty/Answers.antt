use Rattle.plain_machine.proofs.Carried.{empty}
use Rattle.plain_machine.proofs.laws.law_empty.Goals as goal

pub returns : goal.returns
returns c = empty
