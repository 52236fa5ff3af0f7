use Rattle.std.proofs.Common.{ℕ, ◌+◌, List, arith, ap, sym, subst, ◌∙◌}
use Rattle.use_chain.specs.declared.Node.{Node}
use Rattle.use_chain.specs.Rings.{next_of, prev_of, put_before, lists}
use Rattle.use_chain.proofs.RingLemmas.{lists_are, whole_from}
use Rattle.use_chain.proofs.Merging.{IsMerging, merging_passes, merging_moves, merging_room, merging_ends}
use Rattle.use_chain.proofs.nodes.merge.Goals as goal

pub loop-node-smaller-then-at-node : goal.loop-node-smaller-then-at-node
loop-node-smaller-then-at-node c =
    let start = lists c.args.places c.args.nodes.now in
    let m = c.loop-node.invariant.1 in
    let passes = merging_passes c.args.places c.args.from c.args.into start c.loop-node.invariant.0 c.loop-node.nodes c.loop-node.at c.loop-node.node c.requires.into c.if-at-node.true c.loop-node-test.true m in
    omega (arith, passes.0, m.holds.size)

pub loop-node-preserved-then-at-node : goal.loop-node-preserved-then-at-node
loop-node-preserved-then-at-node c =
    let start = lists c.args.places c.args.nodes.now in
    let m = c.loop-node.invariant.1 in
    let passes = merging_passes c.args.places c.args.from c.args.into start c.loop-node.invariant.0 c.loop-node.nodes c.loop-node.at c.loop-node.node c.requires.into c.if-at-node.true c.loop-node-test.true m in
    (c.loop-node.invariant.0, passes.1)

pub put_before-requires-clause-at : goal.put_before-requires-clause-at
put_before-requires-clause-at c =
    let room = merging_room c.args.places c.args.from c.args.into (lists c.args.places c.args.nodes.now) c.loop-node.invariant.0 c.loop-node.nodes c.loop-node.at c.loop-node.node c.requires.from c.requires.into c.loop-node-test.true c.loop-node.invariant.1 in
    omega (arith, room.0, c.take_out.auto.nodes, room.2)

pub put_before-requires-clause-prev : goal.put_before-requires-clause-prev
put_before-requires-clause-prev c =
    let room = merging_room c.args.places c.args.from c.args.into (lists c.args.places c.args.nodes.now) c.loop-node.invariant.0 c.loop-node.nodes c.loop-node.at c.loop-node.node c.requires.from c.requires.into c.loop-node-test.true c.loop-node.invariant.1 in
    omega (arith, room.1, c.take_out.auto.nodes, room.2, ap (λ ns. prev_of ns c.loop-node.at) c.take_out.ensures)

pub loop-node-smaller : goal.loop-node-smaller
loop-node-smaller c =
    let start = lists c.args.places c.args.nodes.now in
    let m = c.loop-node.invariant.1 in
    let moves = merging_moves c.args.places c.args.from c.args.into start c.loop-node.invariant.0 c.loop-node.nodes c.loop-node.at c.loop-node.node c.requires.differ c.requires.from c.requires.into c.if-at-node.false c.loop-node-test.true m in
    let is = c.put_before.ensures ∙ ap (λ ns. put_before ns c.loop-node.at c.loop-node.node) c.take_out.ensures in
    omega (arith, moves.1, ap (λ ns. next_of ns (c.args.places + c.args.from)) is, m.holds.size, c.put_before.auto.nodes, c.take_out.auto.nodes)

pub loop-node-preserved : goal.loop-node-preserved
loop-node-preserved c =
    let start = lists c.args.places c.args.nodes.now in
    let moves = merging_moves c.args.places c.args.from c.args.into start c.loop-node.invariant.0 c.loop-node.nodes c.loop-node.at c.loop-node.node c.requires.differ c.requires.from c.requires.into c.if-at-node.false c.loop-node-test.true c.loop-node.invariant.1 in
    let is = c.put_before.ensures ∙ ap (λ ns. put_before ns c.loop-node.at c.loop-node.node) c.take_out.ensures in
    let P : List Node → Type 0 = λ ns. (uses : List (List ℕ)) × IsMerging c.args.places c.args.from c.args.into start uses ns c.loop-node.at (next_of ns (c.args.places + c.args.from)) in
    subst P (sym is) (moves.0, moves.2)

pub returns-clause-whole : goal.returns-clause-whole
returns-clause-whole c = whole_from c.args.places c.loop-node.nodes c.loop-node.invariant.0 c.loop-node.invariant.1.holds

pub returns-clause-lists : goal.returns-clause-lists
returns-clause-lists c =
    lists_are c.args.places c.loop-node.nodes c.loop-node.invariant.0 c.loop-node.invariant.1.holds
    ∙ merging_ends c.args.places c.args.from c.args.into (lists c.args.places c.args.nodes.now) c.loop-node.invariant.0 c.loop-node.nodes c.loop-node.at c.loop-node.node c.requires.from c.loop-node-test.false c.loop-node.invariant.1
