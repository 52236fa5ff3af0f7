use Rattle.std.proofs.Common.{◌∙◌, arith, ap, ◌*◌, ◌^◌}
use Rattle.noise_bound.specs.Rounding.{up}
use Rattle.noise_bound.proofs.Steps.{quotient_up_is}
use Rattle.noise_bound.proofs.rounding.Bound.quotient_up.Goals as goal

pub returns : goal.returns
returns c =
    c.rounded_up.ensures ∙ ap (λ z. up (z * 2 ^ c.lifted-number.result.1)) c.div_ceil.ensures
    ∙ quotient_up_is c.lifted-number.result.0 c.args.exp c.args.number c.lifted-number.result.1 c.args.divisor
    c.lifted-number.ensures.same c.lifted-number.ensures.long (omega arith) (omega arith)
