use Rattle.std.proofs.Common.{ap, ◌∙◌, ◌++◌}
use Rattle.slot_array.specs.SlotsText.{element_text}
use Rattle.slot_array.proofs.ReadLines.{put_next, put_last}
use Rattle.slot_array.proofs.texts.put_element.Goals as goal
use Rattle.slot_array.proofs.texts.put_element.Goals.{then-i-coeffs+in_ok-push, else-i-coeffs}

pub loop-i-preserved : goal.loop-i-preserved
loop-i-preserved c =
    elim c.if-i-coeffs.branch [
      | then-i-coeffs+in_ok-push w ↦ put_next c.coeffs-coeffs.result.now c.loop-i.i _ _ _ (c.args.text.now.items ++ element_text c.coeffs-coeffs.result.now) w.if-i-coeffs.true c.loop-i.invariant c.in_ok-put_number.ensures.ok (ap (λ v. v.items) w.text-is ∙ w.in_ok-push.ensures.items)
      | else-i-coeffs w ↦ put_last c.coeffs-coeffs.result.now c.loop-i.i _ _ (c.args.text.now.items ++ element_text c.coeffs-coeffs.result.now) c.loop-i-test.true w.if-i-coeffs.false c.loop-i.invariant (ap (λ v. v.items) w.text-is ∙ c.in_ok-put_number.ensures.ok)
    ]
