use Rattle.std.proofs.Common.{◌^◌, ◌-◌}
use Rattle.draw_stream.proofs.Halves.{residue_of_next}
use Rattle.draw_stream.proofs.divisor.Divisor.new.Goals as goal

pub invariant_of-result-clause-high_is : goal.invariant_of-result-clause-high_is
invariant_of-result-clause-high_is c = residue_of_next c.args.modulus (2 ^ 64 - 1)
