use Rattle.std.proofs.Common.{arith, inl, inr, ◌<◌}
use Rattle.std.proofs.lemmas.Bool.{leb-true, le-leb, ltb-true, lt-ltb}
use Rattle.noise_bound.proofs.RoundingLaws.{le_or_above}
use Rattle.noise_bound.proofs.Steps.{order_by_man, man_by_order, above_by_power}
use Rattle.noise_bound.proofs.rounding.Bound.at_least.Goals as goal

pub returns-then-self-b : goal.returns-then-self-b
returns-then-self-b c =
    let a = c.args.self in
    let b = c.args.b in (
      λ t. order_by_man a.man a.exp b.man b.exp c.if-self-b.true (leb-true b.man a.man t),
      λ h. le-leb b.man a.man (man_by_order a.man a.exp b.man b.exp c.if-self-b.true h),
    )

pub returns-else-self-b : goal.returns-else-self-b
returns-else-self-b c =
    let a = c.args.self in
    let b = c.args.b in
    elim (le_or_above a.exp b.exp) [
      | inl under ↦
          let less : a.exp < b.exp = omega arith in
          let above = above_by_power b.man b.exp a.man a.exp a.fits b.normal less in
          (λ t. absurd (omega (arith, less, ltb-true b.exp a.exp t)), λ h. absurd (omega (arith, above, h)))
      | inr over ↦
          let above = above_by_power a.man a.exp b.man b.exp b.fits a.normal over in
          (λ t. omega (arith, above), λ h. lt-ltb b.exp a.exp over)
    ]
