use Rattle.std.proofs.Common.{◌*◌, arith, refl}
use Rattle.two_power.proofs.Rows.{both_below}
use Rattle.two_power.proofs.Steps.{halves_of, step_down}
use Rattle.two_power.proofs.transforms.descend_four.Goals as goal

pub returns-clause-values : goal.returns-clause-values
returns-clause-values c =
    let down = c.pass_down in
    let split = c.split_at_mut-lo in
    step_down c.args.q c.args.ws.now c.requires.tree 2 1 c.args.node c.args.a.now split.result.0.now split.result.1.now down.new.lo down.new.hi c.descend_two.new.a c.descend_two-2.new.a refl c.requires.node_in (halves_of 2 1 2 c.args.a.now split.result.0.now split.result.1.now refl c.requires.size refl split.ensures.front split.ensures.back) (omega arith) (omega arith) (omega arith) down.ensures.lo_value down.ensures.hi_value c.descend_two.ensures.values c.descend_two-2.ensures.values

pub returns-clause-below : goal.returns-clause-below
returns-clause-below c = both_below (4 * c.args.q) c.descend_two.new.a c.descend_two-2.new.a c.descend_two.ensures.below c.descend_two-2.ensures.below
