use Rattle.std.proofs.Common.{arith, ap, map, inl, inr, length, ◌∙◌}
use Rattle.std.proofs.lemmas.List.{length-map}
use Rattle.slot_array.proofs.TextLaws.{read_all, fault_fits, named_line}
use Rattle.slot_array.proofs.texts.read_slots.Goals as goal
use Rattle.slot_array.proofs.texts.read_slots.Goals.{then-len-slots-via-then-len-slots, then-len-slots-via-else-len-slots+then-slots-len}

pub overflow_add-result : goal.overflow_add-result
overflow_add-result c = omega (arith, fault_fits c.args.ext.now c.args.cube.now c.slot_count-slots.ensures.valid c.slot_count-slots.result c.slot_count-slots.ensures.value _ _ c.in_ok-elems.ensures.front c.len-then-len-slots.result (omega (arith, c.len-then-len-slots.ensures, c.in_ok-elems.elems.ok)))

pub returns-then-len-slots-clause-bad : goal.returns-then-len-slots-clause-bad
returns-then-len-slots-clause-bad c =
    let lines_are = ap (map (λ line. line.items)) c.as_slice.ensures.value ∙ c.in_ok-lines.ensures in
    named_line c.args.ext.now c.args.cube.now c.args.bytes.now c.slot_count-slots.result c.slot_count-slots.ensures.value _ _ lines_are c.in_ok-elems.ensures.front c.len-then-len-slots.result (omega (arith, c.len-then-len-slots.ensures, c.in_ok-elems.elems.ok))
    (elim c.then-len-slots.branch [
      | then-len-slots-via-then-len-slots w ↦ inl (omega (arith, w.if-len-slots.true, c.len.ensures))
      | then-len-slots-via-else-len-slots+then-slots-len w ↦ inr (omega (arith, w.if-slots-len.true, w.len-else-len-slots.ensures, ap length lines_are, ap length c.in_ok-lines.ensures, length-map c.in_ok-lines.lines.items (λ line. line.items)))
    ])

pub returns-clause-value : goal.returns-clause-value
returns-clause-value c =
    let lines_are = ap (map (λ line. line.items)) c.as_slice.ensures.value ∙ c.in_ok-lines.ensures in
    read_all c.args.ext.now c.args.cube.now c.args.bytes.now c.slot_count-slots.result c.slot_count-slots.ensures.value _ _ lines_are c.in_ok-elems.ensures.front (omega (arith, c.if-len-slots.false, c.len.ensures)) (omega (arith, c.if-slots-len.false, c.len-else-len-slots.ensures, ap length lines_are, ap length c.in_ok-lines.ensures, length-map c.in_ok-lines.lines.items (λ line. line.items)))
