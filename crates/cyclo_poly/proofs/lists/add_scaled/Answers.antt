use Rattle.std.proofs.Common.{◌≡◌, ◌++◌, [], ◌∷◌, arith, ap, ◌∙◌}
use Rattle.std.proofs.Math.ListN.{set}
use Rattle.cyclo_poly.proofs.HeldSteps.{held_set, held_push}
use Rattle.cyclo_poly.proofs.SumSteps.{sum_inside, sum_past}
use Rattle.cyclo_poly.proofs.lists.add_scaled.Goals as goal
use Rattle.cyclo_poly.proofs.lists.add_scaled.Goals.{then-i-len+in_ok-sum, else-i-len+in_ok-push}

pub loop-i-preserved : goal.loop-i-preserved
loop-i-preserved g c =
    let o = g.R.Ring.ops c.args.ring.now in
    let value = g.R.Ring.value in
    let held = g.R.Ring.held c.args.ring.now in
    let xs = c.loop-i.f.items in
    let i = c.loop-i.i in
    let inv = c.loop-i.invariant in
    let p = c.in_ok-product in
    elim c.if-i-len.branch [
      | then-i-len+in_ok-sum w ↦
          let now : c.if-i-len.f.items ≡ set xs i w.in_ok-sum.sum = ap (λ v. v.items) w.f-is in
          record {
            value = sum_inside value o (value c.args.c.now) c.args.g.now c.args.f.now.items i xs c.if-i-len.f.items c.index-g-i.result w.index.result.now p.product w.in_ok-sum.sum now inv.value (omega arith) (omega (arith, w.if-i-len.true, c.len.ensures, c.loop-i.f.ok.0)) c.index-g-i.is w.index.ensures p.ensures.value w.in_ok-sum.ensures.value;
            held = held_set value held xs c.if-i-len.f.items i w.in_ok-sum.sum now inv.held w.in_ok-sum.ensures.held;
          }
      | else-i-len+in_ok-push w ↦
          let now : c.if-i-len.f.items ≡ xs ++ p.product ∷ [] = ap (λ v. v.items) w.f-is ∙ w.in_ok-push.ensures.items in
          record {
            value = sum_past value o (value c.args.c.now) c.args.g.now c.args.f.now.items i xs c.if-i-len.f.items c.index-g-i.result p.product now inv.value (omega arith) (omega (arith, w.if-i-len.false, c.len.ensures, c.loop-i.f.ok.0)) c.index-g-i.is p.ensures.value;
            held = held_push value held xs c.if-i-len.f.items p.product now inv.held p.ensures.held;
          }
    ]
