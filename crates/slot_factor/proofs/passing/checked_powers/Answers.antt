use Rattle.std.proofs.Common.{sym, ◌∙◌}
use Rattle.slot_factor.proofs.FaultSteps.{fault_divisor}
use Rattle.slot_factor.proofs.passing.checked_powers.Goals as goal

pub returns-then-not-branch-clause-refused : goal.returns-then-not-branch-clause-refused
returns-then-not-branch-clause-refused c = λ _ dual. fault_divisor (record { field = c.args.ext.now; cube = c.args.cube.now; dual = dual }) (sym c.in_ok-is_phi_factor.ensures ∙ c.if-not-branch.true)
