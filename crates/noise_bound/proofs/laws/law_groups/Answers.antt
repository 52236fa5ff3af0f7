use Rattle.noise_bound.proofs.GroupLaws.{IsGroups-groups}
use Rattle.noise_bound.proofs.laws.law_groups.Goals as goal

pub returns : goal.returns
returns c = IsGroups-groups
