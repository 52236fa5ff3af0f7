use Rattle.std.proofs.Common.{subst, below_more}
use Rattle.hyper_cube.specs.Tables.{IsListed}
use Rattle.hyper_cube.proofs.tables.unpowered.Goals as goal

pub loop-i-preserved : goal.loop-i-preserved
loop-i-preserved c = below_more _ _ c.loop-i.invariant (subst (IsListed c.args.powers.now) c.power-wrapped.ensures (c.is_listed.ensures.0 c.if-not-is_listed.false))
