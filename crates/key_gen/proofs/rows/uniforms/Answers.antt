use Rattle.std.proofs.Common.{◌∙◌, ◌+◌, ◌*◌, ap, arith}
use Rattle.draw_stream.specs.Draw.{after}
use Rattle.draw_stream.proofs.Choices.{after-none}
use Rattle.key_gen.proofs.DrawSteps.{after-after, uniforms-none, uniforms-more}
use Rattle.key_gen.proofs.rows.uniforms.Goals as goal

pub loop-init : goal.loop-init
loop-init c = record {
  moved = after-none c.args.draws.now;
  value = c.new-list.ensures.items ∙ uniforms-none c.args.draws.now c.args.draws.now.place c.args.q;
}

pub loop-preserved : goal.loop-preserved
loop-preserved c = record {
  moved = c.uniform.ensures.moved ∙ ap (λ s. after s 4) c.loop.invariant.moved ∙ after-after c.args.draws.now (4 * c.loop.counter) 4 (4 * (c.loop.counter + 1)) (omega arith);
  value = c.in_ok-push.ensures.items ∙ uniforms-more c.args.draws.now c.loop.draws c.args.q c.loop.counter c.uniform.result c.loop.list.items c.loop.invariant.moved c.loop.invariant.value c.uniform.ensures.value;
}
