use Rattle.std.proofs.Common.{◌∙◌, arith, ◌*◌, ◌^◌}
use Rattle.std.proofs.Math.Nat.{div-le_self}
use Rattle.std.proofs.lemmas.Nat.{pow_pos}
use Rattle.noise_bound.proofs.Steps.{half_over_is, exp_of_down, number_le}
use Rattle.noise_bound.proofs.rounding.Bound.half_over.Goals as goal

pub returns : goal.returns
returns c =
    let a = c.args.self in
    let r = c.rounded_down.result in
    let number =
    c.rounded_down.ensures
    ∙ half_over_is c.lifted-number.result.0 a.exp a.man c.lifted-number.result.1 c.args.h
    c.lifted-number.ensures.same c.lifted-number.ensures.long (omega arith) (omega arith) in
    record {
      number = number;
      small = exp_of_down r.man r.exp a.exp _ r.normal number
          (omega (arith, div-le_self (a.man * 2 ^ a.exp) (2 * c.args.h), number_le a.man a.exp a.fits, pow_pos a.exp));
    }
