use Rattle.std.proofs.Common.{◌*◌, ◌+◌, arith, refl}
use Rattle.two_power.proofs.Rows.{both_below}
use Rattle.two_power.proofs.Steps.{halves_of, leaf_values, step_down}
use Rattle.two_power.proofs.transforms.descend_two.Goals as goal

pub returns-clause-values : goal.returns-clause-values
returns-clause-values c =
    let down = c.pass_down in
    let split = c.split_at_mut-lo in
    step_down c.args.q c.args.ws.now c.requires.tree 1 0 c.args.node c.args.a.now split.result.0.now split.result.1.now down.new.lo down.new.hi down.new.lo down.new.hi refl c.requires.node_in (halves_of 1 0 1 c.args.a.now split.result.0.now split.result.1.now refl c.requires.size refl split.ensures.front split.ensures.back) (omega arith) (omega arith) refl down.ensures.lo_value down.ensures.hi_value (leaf_values c.args.q c.args.ws.now (2 * c.args.node) down.new.lo (omega arith)) (leaf_values c.args.q c.args.ws.now (2 * c.args.node + 1) down.new.hi (omega arith))

pub returns-clause-below : goal.returns-clause-below
returns-clause-below c = both_below (4 * c.args.q) c.pass_down.new.lo c.pass_down.new.hi c.pass_down.ensures.lo_below c.pass_down.ensures.hi_below
