use Rattle.std.proofs.Common.{◌+◌, refl}
use Rattle.cyclo_poly.proofs.HeldSteps.{held_push}
use Rattle.cyclo_poly.proofs.ListSteps.{zeros_more}
use Rattle.cyclo_poly.proofs.lists.zeros.Goals as goal

pub loop-preserved : goal.loop-preserved
loop-preserved g c =
    let value = g.R.Ring.value in
    let xs = c.loop.list.items in
    let ys = c.push.new.self.items in
    let s = c.in_ok-zero.zero in
    let now = c.in_ok-push.ensures.items in
    record {
      value = zeros_more value (g.R.Ring.ops c.args.ring.now).zero c.loop.counter (c.loop.counter + 1) xs ys s refl now c.in_ok-zero.ensures.value c.loop.invariant.value;
      held = held_push value (g.R.Ring.held c.args.ring.now) xs ys s now c.loop.invariant.held c.in_ok-zero.ensures.held;
    }
