use Rattle.plain_machine.proofs.Carried.{carrying}
use Rattle.plain_machine.proofs.laws.law_carrying.Goals as goal

pub returns : goal.returns
returns c = carrying c.lower.ensures
