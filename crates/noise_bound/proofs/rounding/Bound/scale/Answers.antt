use Rattle.std.proofs.Common.{◌∙◌, ap, arith, ◌+◌, ◌^◌}
use Rattle.std.proofs.Math.Nat.{mul_right_comm}
use Rattle.noise_bound.specs.Rounding.{up}
use Rattle.noise_bound.proofs.Steps.{exp_of_up, product_le}
use Rattle.noise_bound.proofs.rounding.Bound.scale.Goals as goal

pub returns : goal.returns
returns c =
    let a = c.args.self in
    let r = c.rounded_up.result in
    let number = c.rounded_up.ensures ∙ ap up (mul_right_comm a.man c.args.k (2 ^ a.exp)) in
    record {
      number = number;
      small = exp_of_up r.man r.exp (a.exp + 64) _ r.normal number (product_le a.man a.exp c.args.k a.fits (omega arith));
    }
