use Rattle.std.proofs.Common.{arith, refl}
use Rattle.two_power.proofs.Passed.{passed_up_more, passed_up_all}
use Rattle.two_power.proofs.passes.pass_up.Goals as goal

pub loop-i-preserved : goal.loop-i-preserved
loop-i-preserved c =
    passed_up_more c.args.q c.args.w c.loop-i.i _ _ _ _ c.args.lo.now c.args.hi.now c.loop-i.lo c.loop-i.hi (omega arith) (omega arith) c.loop-i.invariant refl refl c.reduce_double.ensures.congruent c.reduce_double.ensures.below c.mul_lazy.ensures.value c.mul_lazy.ensures.below

pub returns-clause-hi_value : goal.returns-clause-hi_value
returns-clause-hi_value c =
    passed_up_all c.args.q c.args.w c.loop-i.i c.args.lo.now c.args.hi.now c.loop-i.lo c.loop-i.hi (omega arith) (omega arith) c.loop-i.invariant
