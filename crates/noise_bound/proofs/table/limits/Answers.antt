use Rattle.std.proofs.Common.{◌≡◌, add-one, arith, suc, get_or, take, length, ap, sym, ◌∙◌}
use Rattle.std.proofs.lemmas.Grind.{common_steps}
use Rattle.noise_bound.specs.Machine.{product_down}
use Rattle.noise_bound.specs.Rounding.{half_over, scale_down}
use Rattle.noise_bound.specs.Value.{value}
use Rattle.noise_bound.proofs.TableLaws.{AreBounds-push, product_down-more}
use Rattle.noise_bound.proofs.table.limits.Goals as goal

pub loop-q-preserved : goal.loop-q-preserved
loop-q-preserved c =
    let qs = c.args.chain.now in
    let i = c.loop-q.q-index in
    let place : length c.loop-q.limits.items ≡ i = omega (arith, c.loop-q.limits.ok.0) in
    let product : value c.scale_down-product.result ≡ product_down (take (suc i) qs) =
    c.scale_down-product.ensures.number ∙ ap (λ z. scale_down z (get_or qs i 0)) c.loop-q.invariant.0
    ∙ sym (product_down-more qs i c.loop-q-test.true) in (
      rw add-one product,
      omega arith,
      grind (arith, common_steps),
      rw c.in_ok-push.ensures.items (AreBounds-push _ _ c.half_over.result c.loop-q.invariant.3
          (rw place (record {
            number = c.half_over.ensures.number ∙ ap (λ z. half_over z c.args.height) product;
            small = omega arith;
          }))),
    )
