use Rattle.std.proofs.Common.{◌*◌, ◌+◌, arith, refl}
use Rattle.two_power.proofs.Rows.{both_below, back_below}
use Rattle.two_power.proofs.Steps.{halves_of, leaf_multiples, step_up}
use Rattle.two_power.proofs.transforms.ascend_two.Goals as goal

pub returns-clause-values : goal.returns-clause-values
returns-clause-values c = λ ws p T I long h.
    let up = c.pass_up in
    let split = c.split_at_mut-lo in
    let xs = split.result.0.now in
    let ys = split.result.1.now in
    step_up c.args.q c.requires.some ws c.args.vs.now T I 1 0 c.args.node c.args.a.now xs ys xs ys up.new.lo up.new.hi refl c.requires.node_in (halves_of 1 0 1 c.args.a.now xs ys refl c.requires.size refl split.ensures.front split.ensures.back) refl (omega arith) (omega arith) (λ r m k. leaf_multiples c.args.q ws (2 * c.args.node) r xs (omega arith) m k) (λ r m k. leaf_multiples c.args.q ws (2 * c.args.node + 1) r ys (omega arith) m k) (back_below (2 * c.args.q) 1 c.args.a.now ys c.requires.a_in split.ensures.back) up.ensures.lo_value up.ensures.hi_value p long h

pub returns-clause-below : goal.returns-clause-below
returns-clause-below c = both_below (2 * c.args.q) c.pass_up.new.lo c.pass_up.new.hi c.pass_up.ensures.lo_below c.pass_up.ensures.hi_below
