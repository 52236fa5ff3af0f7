use Rattle.std.proofs.Common.{arith}
use Rattle.cyclo_poly.proofs.HeldSteps.{held_push}
use Rattle.cyclo_poly.proofs.ListSteps.{negated_more}
use Rattle.cyclo_poly.proofs.lists.negated.Goals as goal

pub loop-i-preserved : goal.loop-i-preserved
loop-i-preserved g c =
    let value = g.R.Ring.value in
    let xs = c.loop-i.list.items in
    let ys = c.push.new.self.items in
    let s = c.in_ok-minus.minus in
    let now = c.in_ok-push.ensures.items in
    record {
      value = negated_more value (g.R.Ring.ops c.args.ring.now) c.args.f.now xs ys c.loop-i.i c.index-f-i.result s now (omega arith) c.index-f-i.is c.in_ok-minus.ensures.value c.loop-i.invariant.value;
      held = held_push value (g.R.Ring.held c.args.ring.now) xs ys s now c.loop-i.invariant.held c.in_ok-minus.ensures.held;
    }
