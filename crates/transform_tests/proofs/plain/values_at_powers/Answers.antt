use Rattle.std.proofs.Common.{◌<◌, arith, length}
use Rattle.std.proofs.lemmas.List.Elements.{All-from_get_or}
use Rattle.algebra.specs.Ring.{residues}
use Rattle.algebra.specs.Power.{power}
use Rattle.algebra.specs.Poly.{value_at}
use Rattle.bluestein.proofs.Ranges.{made_over}
use Rattle.transform_tests.proofs.plain.values_at_powers.Goals as goal

pub returns-clause-values : goal.returns-clause-values
returns-clause-values c =
    let q = c.args.ring.now.q in
    made_over (λ j. value_at (residues q) (power (residues q) c.args.at j) c.args.coeffs.now) (length c.args.out.now) 0 c.loop-j.out (omega arith) (λ i l. c.loop-j.invariant.done i (omega arith))

pub returns-clause-below : goal.returns-clause-below
returns-clause-below c =
    let q = c.args.ring.now.q in
    All-from_get_or (λ v. v < q) c.loop-j.out 0 (λ i l. c.loop-j.invariant.small i (omega arith))
