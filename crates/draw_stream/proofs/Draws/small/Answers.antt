use Rattle.std.proofs.Common.{rules}
use Rattle.draw_stream.specs.Draw.{small_of}
use Rattle.draw_stream.proofs.Draws.small.Goals as goal

pub returns-clause-value : goal.returns-clause-value
unfolding small_of
returns-clause-value c = search rules
