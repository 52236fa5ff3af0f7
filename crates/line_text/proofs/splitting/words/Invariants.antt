use Rattle.std.proofs.Common.{◌≡◌, ◌++◌, length, map}
use Rattle.line_text.specs.Words.{words_of}
use Rattle.line_text.proofs.splitting.words.Given as goal

abbrev pub invariant-loop-rest : goal.invariant-loop-rest
invariant-loop-rest l = map (λ word. word.items) l.words.items ++ words_of l.rest ≡ words_of l.line

abbrev pub decreases-loop-rest : goal.decreases-loop-rest
decreases-loop-rest l = length l.rest
