use Rattle.std.proofs.Common.{arith}
use Rattle.slot_factor.proofs.PowerSteps.{inverse_found, inverse_none}
use Rattle.slot_factor.proofs.powers.inverse.Goals as goal

pub returns-then-inverse-eq0 : goal.returns-then-inverse-eq0
returns-then-inverse-eq0 c = inverse_none c.args.n c.args.a c.requires.n_low (c.inverse_or_zero-inverse.ensures.none c.if-inverse-eq0.true)

pub returns-else-inverse-eq0 : goal.returns-else-inverse-eq0
returns-else-inverse-eq0 c = inverse_found c.args.n c.args.a c.inverse_or_zero-inverse.result c.requires.n_low c.inverse_or_zero-inverse.ensures.below (c.inverse_or_zero-inverse.ensures.inverse (omega (arith, c.if-inverse-eq0.false)))
