use Rattle.std.proofs.Common.{◌∙◌, ◌^◌}
use Rattle.draw_stream.proofs.Halves.{residue_of_halves}
use Rattle.draw_stream.proofs.divisor.Divisor.residue.Goals as goal

pub returns-clause-value : goal.returns-clause-value
returns-clause-value c =
    let divisor = c.args.self.now in
    c.reduce_once.ensures.value ∙ c.reduce_double-double.ensures.congruent ∙ residue_of_halves divisor.modulus (2 ^ 64) divisor.high divisor.unit c.args.high c.args.low c.mul_lazy-from_high.result c.mul_lazy-from_low.result divisor.high_is divisor.unit_is c.mul_lazy-from_high.ensures.value c.mul_lazy-from_low.ensures.value
