use Rattle.plain_machine.proofs.Carried.{decrypting}
use Rattle.plain_machine.proofs.laws.law_decrypts.Goals as goal

pub returns : goal.returns
returns c = decrypting c.lower.ensures
