use Rattle.std.proofs.Common.{rules}
use Rattle.draw_stream.specs.Draw.{word}
use Rattle.draw_stream.proofs.Draws.next.Goals as goal

pub returns-clause-value : goal.returns-clause-value
unfolding word
returns-clause-value c = search rules
