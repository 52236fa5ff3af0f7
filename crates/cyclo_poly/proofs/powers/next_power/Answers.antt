use Rattle.std.proofs.Common.{◌-◌, length, sym}
use Rattle.cyclo_poly.proofs.PowerSteps.{height_under}
use Rattle.cyclo_poly.proofs.powers.next_power.Goals as goal

pub returns-then-factor-eq0-clause-most : goal.returns-then-factor-eq0-clause-most
returns-then-factor-eq0-clause-most c = sym (height_under c.args.row.now c.args.from (length c.args.g.now - 1) c.args.most c.requires.row_in)
