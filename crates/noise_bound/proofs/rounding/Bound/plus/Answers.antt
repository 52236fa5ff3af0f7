use Rattle.std.proofs.Common.{◌∙◌, ap, ◌+◌, ◌*◌, ◌^◌, max}
use Rattle.std.proofs.Math.Nat.{add_comm}
use Rattle.noise_bound.specs.Rounding.{up}
use Rattle.noise_bound.proofs.Steps.{exp_of_up, plus_le}
use Rattle.noise_bound.proofs.rounding.Bound.plus.Goals as goal

pub returns-then-self-b : goal.returns-then-self-b
returns-then-self-b c =
    let a = c.args.self in
    let b = c.args.b in
    let r = c.sum.result in
    let number = c.sum.ensures ∙ ap up (add_comm (b.man * 2 ^ b.exp) (a.man * 2 ^ a.exp)) in
    record {
      number = number;
      small = exp_of_up r.man r.exp (max a.exp b.exp + 1) _ r.normal number (plus_le a.man a.exp b.man b.exp a.fits b.fits);
    }

pub returns-else-self-b : goal.returns-else-self-b
returns-else-self-b c =
    let a = c.args.self in
    let b = c.args.b in
    let r = c.sum-else-self-b.result in
    record {
      number = c.sum-else-self-b.ensures;
      small = exp_of_up r.man r.exp (max a.exp b.exp + 1) _ r.normal c.sum-else-self-b.ensures (plus_le a.man a.exp b.man b.exp a.fits b.fits);
    }
