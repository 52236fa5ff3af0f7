use Rattle.slot_laws.proofs.Tests.{checks_decide}
use Rattle.slot_laws.proofs.slots.law_checks.Goals as goal

pub returns : goal.returns
returns c f g = checks_decide f g
