use Rattle.std.proofs.Common.{◌≡◌, ◌++◌, length, map}
use Rattle.line_text.specs.Lines.{lines_of}
use Rattle.line_text.proofs.splitting.lines.Given as goal

abbrev pub invariant-loop-rest : goal.invariant-loop-rest
invariant-loop-rest l = map (λ line. line.items) l.lines.items ++ lines_of l.rest ≡ lines_of l.bytes

abbrev pub decreases-loop-rest : goal.decreases-loop-rest
decreases-loop-rest l = length l.rest
