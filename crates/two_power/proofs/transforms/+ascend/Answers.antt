use Rattle.std.proofs.Common.{◌*◌, ◌-◌, ◌/◌, length, arith}
use Rattle.two_power.proofs.Rows.{both_below, front_below, back_below, half_is}
use Rattle.two_power.proofs.Steps.{halves_of, step_up, node_inside, left_inside, right_inside}
use Rattle.two_power.proofs.transforms.+ascend.Goals as goal

pub bounds-vs-node : goal.bounds-vs-node
bounds-vs-node t c = node_inside c.args.levels (c.args.levels - 1) c.args.node _ (omega arith) c.requires.node_in

pub bounds-quotients-node : goal.bounds-quotients-node
bounds-quotients-node t c =
    let inside = node_inside c.args.levels (c.args.levels - 1) c.args.node (length c.args.vs.now) (omega arith) c.requires.node_in in
    omega (arith, c.requires.factors.long)

pub pass_up-requires-clause-same : goal.pass_up-requires-clause-same
pass_up-requires-clause-same t c =
    let split = c.split_at_mut-lo in
    let halves = halves_of c.args.levels (c.args.levels - 1) (length c.args.a.now / 2) c.args.a.now split.result.0.now split.result.1.now (omega arith) c.requires.size (half_is c.args.levels (length c.args.a.now) (omega arith) c.requires.size) split.ensures.front split.ensures.back in
    omega (arith, halves.low_long, halves.high_long)

pub ascend-requires : goal.ascend-requires
ascend-requires t c =
    let split = c.split_at_mut-lo in
    let halves = halves_of c.args.levels (c.args.levels - 1) (length c.args.a.now / 2) c.args.a.now split.result.0.now split.result.1.now (omega arith) c.requires.size (half_is c.args.levels (length c.args.a.now) (omega arith) c.requires.size) split.ensures.front split.ensures.back in
    (omega arith, (halves.low_long, (left_inside c.args.levels (c.args.levels - 1) c.args.node _ (omega arith) c.requires.node_in, (c.requires.some, (c.requires.small, (c.requires.factors, front_below (2 * c.args.q) (length c.args.a.now / 2) c.args.a.now split.result.0.now c.requires.a_in split.ensures.front))))))

pub ascend-requires-2 : goal.ascend-requires-2
ascend-requires-2 t c =
    let split = c.split_at_mut-lo in
    let halves = halves_of c.args.levels (c.args.levels - 1) (length c.args.a.now / 2) c.args.a.now split.result.0.now split.result.1.now (omega arith) c.requires.size (half_is c.args.levels (length c.args.a.now) (omega arith) c.requires.size) split.ensures.front split.ensures.back in
    (omega arith, (halves.high_long, (right_inside c.args.levels (c.args.levels - 1) c.args.node _ (omega arith) c.requires.node_in, (c.requires.some, (c.requires.small, (c.requires.factors, back_below (2 * c.args.q) (length c.args.a.now / 2) c.args.a.now split.result.1.now c.requires.a_in split.ensures.back))))))

pub returns-clause-values : goal.returns-clause-values
returns-clause-values t c = λ ws p T I long h.
    let up = c.pass_up in
    let split = c.split_at_mut-lo in
    let halves = halves_of c.args.levels (c.args.levels - 1) (length c.args.a.now / 2) c.args.a.now split.result.0.now split.result.1.now (omega arith) c.requires.size (half_is c.args.levels (length c.args.a.now) (omega arith) c.requires.size) split.ensures.front split.ensures.back in
    step_up c.args.q c.requires.some ws c.args.vs.now T I c.args.levels (c.args.levels - 1) c.args.node c.args.a.now split.result.0.now split.result.1.now c.ascend.new.a c.ascend-2.new.a up.new.lo up.new.hi (omega arith) c.requires.node_in halves (omega arith) (omega arith) (omega (arith, halves.low_long, halves.high_long)) (λ r m k. c.ascend.ensures.values ws r T I m k) (λ r m k. c.ascend-2.ensures.values ws r T I m k) c.ascend-2.ensures.below up.ensures.lo_value up.ensures.hi_value p long h

pub returns-clause-below : goal.returns-clause-below
returns-clause-below t c = both_below (2 * c.args.q) c.pass_up.new.lo c.pass_up.new.hi c.pass_up.ensures.lo_below c.pass_up.ensures.hi_below
