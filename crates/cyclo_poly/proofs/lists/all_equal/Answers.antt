use Rattle.std.proofs.Common.{arith}
use Rattle.cyclo_poly.proofs.ListSteps.{one_differs}
use Rattle.cyclo_poly.proofs.lists.all_equal.Goals as goal

pub returns-then-not-equal : goal.returns-then-not-equal
returns-then-not-equal g c = (
  λ h. cc,
  one_differs g.R.Ring.value c.args.f.now c.args.g.now c.loop-i.i c.index-f-i.result c.index-g-i.result c.equal.result (omega arith) (omega (arith, c.requires.same_length)) c.index-f-i.is c.index-g-i.is c.if-not-equal.true c.equal.ensures.1,
)
