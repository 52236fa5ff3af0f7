use Rattle.std.proofs.Common.{arith}
use Rattle.hyper_cube.proofs.Divisions.{common_step, common_end}
use Rattle.hyper_cube.proofs.unit_list.greatest_divisor.Goals as goal

pub loop-low-preserved : goal.loop-low-preserved
loop-low-preserved c = record {
  positive = omega arith;
  common = common_step c.args.a c.args.b c.loop-low.high c.loop-low.low c.loop-low.invariant.common;
}

pub returns : goal.returns
returns c = common_end c.args.a c.args.b c.loop-low.high c.loop-low.low c.requires.a_in c.requires.b_in (omega arith) c.loop-low.invariant.common
