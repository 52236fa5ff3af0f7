use Rattle.slot_program.proofs.RunLaws.{runs_are_longest}
use Rattle.slot_program.proofs.printing.law_runs.Goals as goal

pub returns : goal.returns
returns c = runs_are_longest
