use Rattle.std.proofs.Common.{arith, length}
use Rattle.bluestein.proofs.Ranges.{made_over}
use Rattle.double_crt.proofs.words.sub_words.Goals as goal

pub returns-clause-value : goal.returns-clause-value
returns-clause-value c = made_over _ (length c.args.words.now) 0 c.loop-i.words (omega arith) (λ k l. c.loop-i.invariant.done k (omega arith))
