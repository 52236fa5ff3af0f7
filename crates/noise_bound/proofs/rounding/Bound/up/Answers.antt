use Rattle.std.proofs.Common.{◌∙◌, ap, arith}
use Rattle.std.proofs.Math.Nat.{mul-one}
use Rattle.noise_bound.specs.Rounding.{up}
use Rattle.noise_bound.proofs.Steps.{exp_of_up}
use Rattle.noise_bound.proofs.rounding.Bound.up.Goals as goal

pub returns : goal.returns
returns c =
    let r = c.rounded_up.result in
    let number = c.rounded_up.ensures ∙ ap up (mul-one c.args.x) in
    record { number = number; small = exp_of_up r.man r.exp 97 c.args.x r.normal number (omega arith) }
