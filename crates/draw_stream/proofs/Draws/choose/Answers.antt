use Rattle.std.proofs.Common.{length, arith, ap, ◌∙◌}
use Rattle.std.specs.Prelude.{pos}
use Rattle.std.specs.Int.{w64}
use Rattle.std.proofs.lemmas.Int.{to_z-of_z}
use Rattle.std.proofs.lemmas.List.{length-replicate}
use Rattle.draw_stream.specs.Sparse.{choices, sparse_of}
use Rattle.draw_stream.proofs.Choices.{choices_start, order_more, coefficients_more, named_below, after-none, after_step}
use Rattle.draw_stream.proofs.Draws.choose.Goals as goal

pub loop-i-init : goal.loop-i-init
loop-i-init c =
    let start = choices_start c.args.self.now (length c.args.order.now) c.args.order.now c.args.coefficients.now c.requires.start in
    record { moved = after-none c.args.self.now; order = start.0; coefficients = start.1 }

pub bounds-coefficients-order : goal.bounds-coefficients-order
bounds-coefficients-order c =
    let n = length c.args.order.now in
    let invariant = c.loop-i.invariant in
    let order = order_more c.args.self.now c.loop-i.self n c.loop-i.i c.uniform.result c.loop-i.order c.swap.new.self invariant.moved invariant.order c.uniform.ensures.value c.swap.ensures.after in
    let below = named_below c.args.self.now n c.loop-i.i c.swap.new.self (omega arith) order in
    omega (arith, below, ap length c.requires.start.1, length-replicate n (pos 0))

pub loop-i-preserved : goal.loop-i-preserved
loop-i-preserved c =
    let n = length c.args.order.now in
    let invariant = c.loop-i.invariant in
    let order = order_more c.args.self.now c.loop-i.self n c.loop-i.i c.uniform.result c.loop-i.order c.swap.new.self invariant.moved invariant.order c.uniform.ensures.value c.swap.ensures.after in
    let coefficients = coefficients_more c.args.self.now c.loop-i.self c.uniform.new.self n c.loop-i.i c.swap.new.self c.loop-i.coefficients c.sign.result invariant.moved c.uniform.ensures.moved order invariant.coefficients c.sign.ensures.value in
    record {
      moved = after_step c.args.self.now c.loop-i.self c.uniform.new.self c.sign.new.self c.loop-i.i invariant.moved c.uniform.ensures.moved c.sign.ensures.moved;
      order = order;
      coefficients = rw (to_z-of_z w64 c.sign.result (record { sfits = c.sign.type_inv })) coefficients;
    }

pub returns-clause-value : goal.returns-clause-value
unfolding sparse_of
returns-clause-value c =
    c.loop-i.invariant.coefficients ∙ ap (λ k. (choices c.args.self.now (length c.args.order.now) k).coefficients) (omega arith)
