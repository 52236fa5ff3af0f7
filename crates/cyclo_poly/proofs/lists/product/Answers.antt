use Rattle.std.proofs.Common.{◌-◌, map, arith}
use Rattle.cyclo_poly.proofs.HeldSteps.{held_none, held_first}
use Rattle.cyclo_poly.proofs.ProductSteps.{product_none, product_more}
use Rattle.cyclo_poly.proofs.lists.product.Goals as goal

pub loop-i-init : goal.loop-i-init
loop-i-init g c =
    let value = g.R.Ring.value in
    let empty = c.new-total.ensures.items in
    record {
      value = product_none value (g.R.Ring.ops c.args.ring.now) c.args.f.now (map value c.args.g.now) c.new-total.result.items empty;
      held = held_none value (g.R.Ring.held c.args.ring.now) c.new-total.result.items empty;
    }

pub add_scaled-requires-clause-f_held : goal.add_scaled-requires-clause-f_held
add_scaled-requires-clause-f_held g c =
    held_first g.R.Ring.value (g.R.Ring.held c.args.ring.now) c.loop-i.total.items c.insert.new.self.items c.in_ok-zero.zero c.in_ok-insert.ensures.items c.loop-i.invariant.held c.in_ok-zero.ensures.held

pub loop-i-preserved : goal.loop-i-preserved
loop-i-preserved g c =
    let value = g.R.Ring.value in
    record {
      value = product_more value (g.R.Ring.ops c.args.ring.now) c.args.f.now (map value c.args.g.now) c.loop-i.i (c.loop-i.i - 1) c.index-f-i.result c.in_ok-zero.zero c.loop-i.total.items c.insert.new.self.items c.add_scaled.new.f.items (omega arith) (omega arith) c.index-f-i.is c.loop-i.invariant.value c.in_ok-insert.ensures.items c.in_ok-zero.ensures.value c.in_ok-add_scaled.ensures.value;
      held = c.in_ok-add_scaled.ensures.held;
    }
