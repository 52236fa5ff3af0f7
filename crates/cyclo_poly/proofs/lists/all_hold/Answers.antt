use Rattle.std.proofs.Common.{arith, sym, ◌∙◌}
use Rattle.cyclo_poly.proofs.ListSteps.{one_not_held}
use Rattle.cyclo_poly.proofs.lists.all_hold.Goals as goal

pub returns-then-not-holds : goal.returns-then-not-holds
returns-then-not-holds g c =
    one_not_held g.R.Ring.value (g.R.Ring.held c.args.ring.now) c.args.f.now c.loop-i.i c.index-f-i.result (omega arith) c.index-f-i.is (sym c.holds.ensures ∙ c.if-not-holds.true)
