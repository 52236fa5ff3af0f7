use Rattle.std.proofs.Common.{◌*◌, ◌-◌, ◌/◌, length, arith}
use Rattle.two_power.proofs.Rows.{both_below, half_is}
use Rattle.two_power.proofs.Steps.{halves_of, step_down, node_inside, left_inside, right_inside}
use Rattle.two_power.proofs.transforms.+descend.Goals as goal

pub bounds-ws-node : goal.bounds-ws-node
bounds-ws-node t c = node_inside c.args.levels (c.args.levels - 1) c.args.node _ (omega arith) c.requires.node_in

pub bounds-quotients-node : goal.bounds-quotients-node
bounds-quotients-node t c =
    let inside = node_inside c.args.levels (c.args.levels - 1) c.args.node (length c.args.ws.now) (omega arith) c.requires.node_in in
    omega (arith, c.requires.factors.long)

pub pass_down-requires-clause-same : goal.pass_down-requires-clause-same
pass_down-requires-clause-same t c =
    let split = c.split_at_mut-lo in
    let halves = halves_of c.args.levels (c.args.levels - 1) (length c.args.a.now / 2) c.args.a.now split.result.0.now split.result.1.now (omega arith) c.requires.size (half_is c.args.levels (length c.args.a.now) (omega arith) c.requires.size) split.ensures.front split.ensures.back in
    omega (arith, halves.low_long, halves.high_long)

pub descend-requires : goal.descend-requires
descend-requires t c =
    let split = c.split_at_mut-lo in
    let halves = halves_of c.args.levels (c.args.levels - 1) (length c.args.a.now / 2) c.args.a.now split.result.0.now split.result.1.now (omega arith) c.requires.size (half_is c.args.levels (length c.args.a.now) (omega arith) c.requires.size) split.ensures.front split.ensures.back in
    (omega arith, (omega (arith, halves.low_long), (left_inside c.args.levels (c.args.levels - 1) c.args.node _ (omega arith) c.requires.node_in, (c.requires.some, (c.requires.small, (c.requires.factors, (c.requires.tree, c.pass_down.ensures.lo_below)))))))

pub descend-requires-2 : goal.descend-requires-2
descend-requires-2 t c =
    let split = c.split_at_mut-lo in
    let halves = halves_of c.args.levels (c.args.levels - 1) (length c.args.a.now / 2) c.args.a.now split.result.0.now split.result.1.now (omega arith) c.requires.size (half_is c.args.levels (length c.args.a.now) (omega arith) c.requires.size) split.ensures.front split.ensures.back in
    (omega arith, (omega (arith, halves.high_long), (right_inside c.args.levels (c.args.levels - 1) c.args.node _ (omega arith) c.requires.node_in, (c.requires.some, (c.requires.small, (c.requires.factors, (c.requires.tree, c.pass_down.ensures.hi_below)))))))

pub returns-clause-values : goal.returns-clause-values
returns-clause-values t c =
    let down = c.pass_down in
    let split = c.split_at_mut-lo in
    let halves = halves_of c.args.levels (c.args.levels - 1) (length c.args.a.now / 2) c.args.a.now split.result.0.now split.result.1.now (omega arith) c.requires.size (half_is c.args.levels (length c.args.a.now) (omega arith) c.requires.size) split.ensures.front split.ensures.back in
    step_down c.args.q c.args.ws.now c.requires.tree c.args.levels (c.args.levels - 1) c.args.node c.args.a.now split.result.0.now split.result.1.now down.new.lo down.new.hi c.descend.new.a c.descend-2.new.a (omega arith) c.requires.node_in halves (omega arith) (omega arith) (omega arith) down.ensures.lo_value down.ensures.hi_value c.descend.ensures.values c.descend-2.ensures.values

pub returns-clause-below : goal.returns-clause-below
returns-clause-below t c = both_below (4 * c.args.q) c.descend.new.a c.descend-2.new.a c.descend.ensures.below c.descend-2.ensures.below
