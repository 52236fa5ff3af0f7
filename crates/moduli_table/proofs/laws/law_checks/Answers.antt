use Rattle.moduli_table.proofs.Accepting.{checks_are}
use Rattle.moduli_table.proofs.laws.law_checks.Goals as goal

pub returns : goal.returns
returns c = checks_are
