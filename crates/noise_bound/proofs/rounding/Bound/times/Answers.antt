use Rattle.std.proofs.Common.{◌∙◌, ap, ◌+◌, ◌^◌, ◌*◌}
use Rattle.std.proofs.Math.Nat.{mul-mul-mul_comm}
use Rattle.std.proofs.lemmas.Nat.{pow-add}
use Rattle.noise_bound.specs.Rounding.{up}
use Rattle.noise_bound.proofs.Steps.{exp_of_up, times_le}
use Rattle.noise_bound.proofs.rounding.Bound.times.Goals as goal

pub returns : goal.returns
returns c =
    let a = c.args.self in
    let b = c.args.b in
    let r = c.rounded_up.result in
    let number =
    c.rounded_up.ensures
    ∙ ap (λ z. up (a.man * b.man * z)) (pow-add 2 a.exp b.exp)
    ∙ ap up (mul-mul-mul_comm a.man b.man (2 ^ a.exp) (2 ^ b.exp)) in
    record {
      number = number;
      small = exp_of_up r.man r.exp (a.exp + b.exp + 32) _ r.normal number (times_le a.man a.exp b.man b.exp a.fits b.fits);
    }
