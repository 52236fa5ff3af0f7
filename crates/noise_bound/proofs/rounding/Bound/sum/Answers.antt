use Rattle.std.proofs.Common.{◌∙◌, ap, ◌^◌, ◌*◌, ◌+◌, refl}
use Rattle.noise_bound.specs.Rounding.{up}
use Rattle.noise_bound.proofs.Steps.{sum_near, sum_far}
use Rattle.noise_bound.proofs.rounding.Bound.sum.Goals as goal

pub returns-then-gap-lt64 : goal.returns-then-gap-lt64
returns-then-gap-lt64 c =
    let h = c.args.high in
    let l = c.args.low in
    c.rounded_up.ensures ∙ ap up (sum_near h.man h.exp l.man l.exp _ refl c.requires.ordered c.if-gap-lt64.true h.fits)

pub returns : goal.returns
returns c =
    let h = c.args.high in
    let l = c.args.low in
    c.rounded_up-2.ensures ∙ ap (λ z. up ((h.man + z) * 2 ^ h.exp)) c.min.ensures
    ∙ sum_far h.man h.exp l.man l.exp _ refl c.requires.ordered c.if-gap-lt64.false l.fits h.normal
