use Rattle.std.proofs.Common.{◌∙◌, ap, arith, ◌+◌, ◌*◌, ◌^◌}
use Rattle.std.proofs.Math.Nat.{mul_right_comm, le_trans}
use Rattle.std.specs.Int.{div_ceil}
use Rattle.noise_bound.specs.Rounding.{up}
use Rattle.noise_bound.proofs.Steps.{exp_of_up, product_le, div_ceil_le_self}
use Rattle.noise_bound.proofs.rounding.Bound.over.Goals as goal

pub returns : goal.returns
returns c =
    let a = c.args.self in
    let r = c.quotient_up.result in
    let number =
    c.quotient_up.ensures
    ∙ ap (λ z. up (div_ceil z c.args.modulus)) (mul_right_comm a.man c.args.factor (2 ^ a.exp)) in
    record {
      number = number;
      small = exp_of_up r.man r.exp (a.exp + 64) _ r.normal number
          (le_trans (div_ceil_le_self (a.man * 2 ^ a.exp * c.args.factor) c.args.modulus c.requires.divisor) (product_le a.man a.exp c.args.factor a.fits (omega arith)));
    }
