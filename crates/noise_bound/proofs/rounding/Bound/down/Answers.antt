use Rattle.std.proofs.Common.{◌∙◌, ap, arith}
use Rattle.std.proofs.Math.Nat.{mul-one}
use Rattle.noise_bound.specs.Rounding.{down}
use Rattle.noise_bound.proofs.Steps.{exp_of_down}
use Rattle.noise_bound.proofs.rounding.Bound.down.Goals as goal

pub returns : goal.returns
returns c =
    let r = c.rounded_down.result in
    let number = c.rounded_down.ensures ∙ ap down (mul-one c.args.x) in
    record { number = number; small = exp_of_down r.man r.exp 96 c.args.x r.normal number (omega arith) }
