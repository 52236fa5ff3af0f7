use Rattle.std.proofs.Common.{◌∙◌, ◌+◌, [], ◌∷◌, ◌++◌, ap, arith}
use Rattle.std.specs.Int.{w64}
use Rattle.std.proofs.lemmas.Int.{to_z-of_z}
use Rattle.draw_stream.specs.Draw.{after}
use Rattle.draw_stream.proofs.Choices.{after-none}
use Rattle.key_gen.proofs.DrawSteps.{after-after, smalls-none, smalls-more}
use Rattle.key_gen.proofs.rows.smalls.Goals as goal

pub loop-init : goal.loop-init
loop-init c = record {
  moved = after-none c.args.draws.now;
  value = c.new-list.ensures.items ∙ smalls-none c.args.draws.now c.args.draws.now.place;
}

pub loop-preserved : goal.loop-preserved
loop-preserved c = record {
  moved = c.small.ensures.moved ∙ ap (λ s. after s 1) c.loop.invariant.moved ∙ after-after c.args.draws.now c.loop.counter 1 (c.loop.counter + 1) (omega arith);
  value =
      c.in_ok-push.ensures.items ∙ ap (λ x. c.loop.list.items ++ x ∷ []) (to_z-of_z w64 c.small.result (record { sfits = c.small.type_inv }))
      ∙ smalls-more c.args.draws.now c.loop.draws c.loop.counter c.loop.list.items c.small.result c.loop.invariant.moved c.loop.invariant.value c.small.ensures.value;
}
