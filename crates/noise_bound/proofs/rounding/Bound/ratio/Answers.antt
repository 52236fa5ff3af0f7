use Rattle.std.proofs.Common.{◌∙◌, arith, ◌^◌, ◌*◌}
use Rattle.std.proofs.Math.Nat.{le_trans}
use Rattle.noise_bound.proofs.Steps.{ratio_near, ratio_far, factor_pos, exp_of_up, number_le, div_ceil_le_self}
use Rattle.noise_bound.proofs.rounding.Bound.ratio.Goals as goal

pub returns-then-self-b : goal.returns-then-self-b
returns-then-self-b c =
    let a = c.args.self in
    let b = c.args.b in
    record {
      number = c.of_word.ensures.number ∙ c.min.ensures ∙ ratio_far a.man a.exp b.man b.exp c.if-self-b.true a.fits b.normal;
      small = omega arith;
    }

pub returns : goal.returns
returns c =
    let a = c.args.self in
    let b = c.args.b in
    let r = c.quotient_up.result in
    let number = c.quotient_up.ensures ∙ ratio_near a.man a.exp b.man b.exp c.if-self-b.false (factor_pos b.man (2 ^ b.exp) c.requires.divisor) in
    record {
      number = number;
      small = exp_of_up r.man r.exp a.exp _ r.normal number
          (le_trans (div_ceil_le_self (a.man * 2 ^ a.exp) (b.man * 2 ^ b.exp) c.requires.divisor) (number_le a.man a.exp a.fits));
    }
