use Rattle.std.proofs.Common.{arith, refl}
use Rattle.two_power.proofs.Passed.{passed_down_more}
use Rattle.two_power.proofs.passes.pass_down.Goals as goal

pub loop-i-preserved : goal.loop-i-preserved
loop-i-preserved c =
    passed_down_more c.args.q c.args.w c.loop-i.i _ _ _ _ c.args.lo.now c.args.hi.now c.loop-i.lo c.loop-i.hi c.requires.some c.requires.w_in (omega arith) (omega arith) c.loop-i.invariant refl refl c.reduce_double-u.ensures.congruent c.reduce_double-u.ensures.below c.mul_lazy-v.ensures.value c.mul_lazy-v.ensures.below
