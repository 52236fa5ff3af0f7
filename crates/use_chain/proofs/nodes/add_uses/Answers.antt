use Rattle.std.proofs.Common.{◌≡◌, ◌+◌, ◌*◌, length, arith, ap, sym, subst, ◌∙◌}
use Rattle.std.proofs.lemmas.List.FromFn.{length-map-range_with_len}
use Rattle.use_chain.specs.Uses.{operands_of, uses_below}
use Rattle.use_chain.specs.Rings.{lists, alone, AreBelow}
use Rattle.use_chain.proofs.Building.{length-uses_below, uses_below_are, holds_none, first_operand, second_operand, named_within, uses_added}
use Rattle.use_chain.proofs.RingLemmas.{lists_are, whole_from}
use Rattle.use_chain.proofs.nodes.add_uses.Goals as goal

pub loop-step-init : goal.loop-step-init
loop-step-init c =
    let h = holds_none c.args.places c.args.steps.now c.args.nodes.now c.requires.places c.requires.alone in
    let uses = uses_below c.args.steps.now 0 in
    record { whole = whole_from c.args.places c.args.nodes.now uses h; lists = lists_are c.args.places c.args.nodes.now uses h }

pub append-requires-clause-few : goal.append-requires-clause-few
append-requires-clause-few c =
    omega (arith, ap length c.requires.alone, length-map-range_with_len alone 0 (3 * length c.args.steps.now))

pub append-requires-clause-later : goal.append-requires-clause-later
append-requires-clause-later c =
    subst (λ uses. AreBelow uses (2 * c.loop-step.step)) (sym c.loop-step.invariant.lists) (uses_below_are c.args.steps.now (2 * c.loop-step.step))

pub append-requires-clause-value : goal.append-requires-clause-value
append-requires-clause-value c =
    let size = ap length c.loop-step.invariant.lists ∙ length-uses_below c.args.steps.now (2 * c.loop-step.step) in
    named_within (operands_of c.args.steps.now c.loop-step.step).first c.loop-step.step _ (omega (arith, size)) (c.requires.earlier c.loop-step.step (omega arith)).0

pub append-requires-in-loop-step-clause-few : goal.append-requires-in-loop-step-clause-few
append-requires-in-loop-step-clause-few c =
    omega (arith, c.append.auto.nodes, ap length c.requires.alone, length-map-range_with_len alone 0 (3 * length c.args.steps.now))

pub append-requires-in-loop-step-clause-later : goal.append-requires-in-loop-step-clause-later
append-requires-in-loop-step-clause-later c =
    let steps = c.args.steps.now in
    let i = c.loop-step.step in
    let size = ap length c.loop-step.invariant.lists ∙ length-uses_below steps (2 * i) in
    let first = (operands_of steps i).first in
    let named = named_within first i (length (lists c.args.places c.loop-step.nodes)) (omega (arith, size)) (c.requires.earlier i (omega arith)).0 in
    let one = uses_added steps (lists c.args.places c.loop-step.nodes) (lists c.args.places c.append.new.nodes) (2 * i) first c.loop-step.invariant.lists (first_operand steps i) named c.append.ensures.lists in
    subst (λ uses. AreBelow uses (2 * i + 1)) (sym one) (uses_below_are steps (2 * i + 1))

pub append-requires-in-loop-step-clause-value : goal.append-requires-in-loop-step-clause-value
append-requires-in-loop-step-clause-value c =
    let steps = c.args.steps.now in
    let i = c.loop-step.step in
    let size = ap length c.loop-step.invariant.lists ∙ length-uses_below steps (2 * i) in
    let first = (operands_of steps i).first in
    let named = named_within first i (length (lists c.args.places c.loop-step.nodes)) (omega (arith, size)) (c.requires.earlier i (omega arith)).0 in
    let one = uses_added steps (lists c.args.places c.loop-step.nodes) (lists c.args.places c.append.new.nodes) (2 * i) first c.loop-step.invariant.lists (first_operand steps i) named c.append.ensures.lists in
    let size' = ap length one ∙ length-uses_below steps (2 * i + 1) in
    named_within (operands_of steps i).second i _ (omega (arith, size')) (c.requires.earlier i (omega arith)).1

pub loop-step-preserved : goal.loop-step-preserved
loop-step-preserved c =
    let steps = c.args.steps.now in
    let i = c.loop-step.step in
    let size = ap length c.loop-step.invariant.lists ∙ length-uses_below steps (2 * i) in
    let first = (operands_of steps i).first in
    let named = named_within first i (length (lists c.args.places c.loop-step.nodes)) (omega (arith, size)) (c.requires.earlier i (omega arith)).0 in
    let one = uses_added steps (lists c.args.places c.loop-step.nodes) (lists c.args.places c.append.new.nodes) (2 * i) first c.loop-step.invariant.lists (first_operand steps i) named c.append.ensures.lists in
    let size' = ap length one ∙ length-uses_below steps (2 * i + 1) in
    let second = (operands_of steps i).second in
    let named' = named_within second i (length (lists c.args.places c.append.new.nodes)) (omega (arith, size')) (c.requires.earlier i (omega arith)).1 in
    let two = uses_added steps (lists c.args.places c.append.new.nodes) (lists c.args.places c.append-in-loop-step.new.nodes) (2 * i + 1) second one (second_operand steps i) named' c.append-in-loop-step.ensures.lists in
    let count : 2 * i + 1 + 1 ≡ 2 * (i + 1) = omega arith in
    record { whole = c.append-in-loop-step.ensures.whole; lists = two ∙ ap (uses_below steps) count }
