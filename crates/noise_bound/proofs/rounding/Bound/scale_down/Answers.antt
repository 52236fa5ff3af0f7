use Rattle.std.proofs.Common.{◌∙◌, ap, arith, ◌+◌, ◌^◌}
use Rattle.std.proofs.Math.Nat.{mul_right_comm}
use Rattle.std.proofs.lemmas.Nat.{pow_pos}
use Rattle.noise_bound.specs.Rounding.{down}
use Rattle.noise_bound.proofs.Steps.{exp_of_down, product_le}
use Rattle.noise_bound.proofs.rounding.Bound.scale_down.Goals as goal

pub returns : goal.returns
returns c =
    let a = c.args.self in
    let r = c.rounded_down.result in
    let number = c.rounded_down.ensures ∙ ap down (mul_right_comm a.man c.args.k (2 ^ a.exp)) in
    record {
      number = number;
      small = exp_of_down r.man r.exp (a.exp + 64) _ r.normal number
          (omega (arith, product_le a.man a.exp c.args.k a.fits (omega arith), pow_pos (a.exp + 64)));
    }
