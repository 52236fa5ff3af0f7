use Rattle.std.proofs.Common.{refl}
use Rattle.bluestein.proofs.Powers.{digits_size, digits_high}
use Rattle.bluestein.proofs.plan.levels_for.Goals as goal

pub returns-clause-size : goal.returns-clause-size
returns-clause-size c = digits_size c.args.count _ c.requires.some c.requires.few refl

pub returns-clause-high : goal.returns-clause-high
returns-clause-high c = digits_high c.args.count _ c.requires.some c.requires.few refl
