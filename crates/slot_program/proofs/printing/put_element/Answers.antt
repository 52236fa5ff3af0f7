use Rattle.std.proofs.Common.{◌≡◌, ℕ, ◌+◌, ◌<◌, ◌≤◌, ◌++◌, ◌∷◌, [], length, ap, ◌∙◌, arith, Vec, Global}
use Rattle.std.specs.Prelude.{decimal}
use Rattle.std.proofs.lemmas.Grind.{common_steps}
use Rattle.slot_program.specs.Printed.{element_text}
use Rattle.slot_program.proofs.PrintSteps.{put_more, put_last}
use Rattle.slot_program.proofs.printing.put_element.Goals as goal
use Rattle.slot_program.proofs.printing.put_element.Goals.{then-i-count+in_ok-push, else-i-count}

pub loop-i-preserved : goal.loop-i-preserved
loop-i-preserved c =
    let here : c.loop-i.i < length c.args.element.now = grind (arith, common_steps) in
    elim c.if-i-count.branch [
      | then-i-count+in_ok-push w ↦
          let more : c.loop-i.i + 1 < length c.args.element.now = grind (arith, common_steps) in
          let comma : c.if-i-count.out.items ≡ c.put_number.new.out.items ++ 44 ∷ [] = ap (λ (v : Vec ℕ Global). v.items) w.out-is ∙ w.in_ok-push.ensures.items in
          put_more c.args.element.now c.loop-i.out.items c.put_number.new.out.items c.if-i-count.out.items (c.args.out.now.items ++ element_text c.args.element.now) c.loop-i.i c.coeff.result more c.coeff.ensures c.in_ok-put_number.ensures.ok comma c.loop-i.invariant
      | else-i-count w ↦
          let last : length c.args.element.now ≤ c.loop-i.i + 1 = grind (arith, common_steps) in
          let number : c.if-i-count.out.items ≡ c.loop-i.out.items ++ decimal c.coeff.result = ap (λ (v : Vec ℕ Global). v.items) w.out-is ∙ c.in_ok-put_number.ensures.ok in
          put_last c.args.element.now c.loop-i.out.items c.if-i-count.out.items (c.args.out.now.items ++ element_text c.args.element.now) c.loop-i.i c.coeff.result here last c.coeff.ensures number c.loop-i.invariant
    ]
