use Rattle.scheme_laws.proofs.NormCounts.{norm_counts}
use Rattle.scheme_laws.proofs.scheme.law_norm_counts.Goals as goal

pub returns : goal.returns
returns c = norm_counts
