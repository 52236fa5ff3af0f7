use Rattle.hyper_cube.proofs.Refusals.{cube_is, cube_passes, fault_says, fault_from}
use Rattle.hyper_cube.proofs.laws.law_checks.Goals as goal

pub returns-clause-passes : goal.returns-clause-passes
returns-clause-passes c = λ t S. (cube_is t S, cube_passes t)

pub returns-clause-fails : goal.returns-clause-fails
returns-clause-fails c = λ t S e. (fault_says t S e, fault_from t S e)
