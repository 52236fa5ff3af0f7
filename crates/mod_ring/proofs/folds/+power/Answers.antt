use Rattle.std.proofs.Common.{◌/◌, arith}
use Rattle.mod_ring.proofs.Squares.{power_even, power_odd}
use Rattle.mod_ring.proofs.folds.+power.Goals as goal

pub returns-then-e-eq0-2-clause-value : goal.returns-then-e-eq0-2-clause-value
returns-then-e-eq0-2-clause-value g t c =
    power_even (g.met.R.Ring.laws c.args.ring.now c.requires.ring) _ _ _ (c.args.e / 2) c.args.e c.requires.a_held c.in_ok-half.ensures.value c.in_ok-square.ensures.value (omega arith)

pub returns-clause-value : goal.returns-clause-value
returns-clause-value g t c =
    power_odd (g.met.R.Ring.laws c.args.ring.now c.requires.ring) _ _ _ _ (c.args.e / 2) c.args.e c.requires.a_held c.in_ok-square.ensures.held c.in_ok-half.ensures.value c.in_ok-square.ensures.value c.in_ok-odd.ensures.value (omega arith)
