use Rattle.std.proofs.Common.{rules}
use Rattle.draw_stream.specs.Draw.{error_of}
use Rattle.draw_stream.proofs.Ones.{count_ones_ten, abs_difference}
use Rattle.draw_stream.proofs.Draws.error.Goals as goal

pub returns-clause-value : goal.returns-clause-value
unfolding error_of
returns-clause-value c = search (rules, count_ones_ten, abs_difference)

pub returns-clause-bound : goal.returns-clause-bound
returns-clause-bound c = search (rules, count_ones_ten, abs_difference)
