use Rattle.bluestein.proofs.Rooted.{values_determine}
use Rattle.bluestein.proofs.laws.law_round_trip.Goals as goal

pub returns : goal.returns
returns c = values_determine
