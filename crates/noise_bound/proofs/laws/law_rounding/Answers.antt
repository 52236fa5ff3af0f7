use Rattle.noise_bound.proofs.RoundingLaws.{IsUp-up, IsDown-down, up_mono, down_mono, up-floating, down-floating}
use Rattle.noise_bound.proofs.laws.law_rounding.Goals as goal

pub returns : goal.returns
returns c = record {
  rounds_up = IsUp-up;
  rounds_down = IsDown-down;
  up_ordered = up_mono;
  down_ordered = down_mono;
  up_keeps = up-floating;
  down_keeps = down-floating;
}
