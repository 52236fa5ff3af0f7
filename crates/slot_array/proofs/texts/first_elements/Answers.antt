use Rattle.std.proofs.Common.{arith, ap, length, ◌∙◌}
use Rattle.std.proofs.lemmas.List.{length_push}
use Rattle.slot_array.proofs.Filled.{all_more}
use Rattle.slot_array.proofs.ReadLines.{line_more}
use Rattle.slot_array.proofs.texts.first_elements.Goals as goal

pub loop-line-preserved : goal.loop-line-preserved
loop-line-preserved c =
    record {
      long = omega (arith, ap length c.in_ok-push.ensures.items ∙ length_push c.loop-line.elems.items c.in-Some.element, c.loop-line.invariant.long);
      few = omega (arith, c.len.ensures, c.if-len-most.false, c.loop-line.invariant.long);
      written = line_more (λ line. line.items) c.args.ext.now c.args.lines.now c.loop-line.line-index c.line-item.result _ _ _ _ _ c.loop-line-test.true c.line-item.is c.loop-line.invariant.written c.as_slice.ensures.value c.in_ok-element.ensures.value c.in-Some.is c.in_ok-push.ensures.items;
      elements = all_more c.args.ext.now _ _ _ c.loop-line.invariant.elements (rw c.in-Some.is at c.in_ok-element.ensures.element) c.in_ok-push.ensures.items;
    }
