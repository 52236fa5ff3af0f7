use Rattle.std.proofs.Common.{arith, get_or, ◌*◌}
use Rattle.std.proofs.Math.Nat.{mul-pos}
use Rattle.std.proofs.lemmas.Grind.{common_steps}
use Rattle.noise_bound.specs.Value.{value}
use Rattle.noise_bound.proofs.TableLaws.{down_pos}
use Rattle.noise_bound.proofs.table.product_down.Goals as goal

pub loop-q-preserved : goal.loop-q-preserved
loop-q-preserved c =
    let q = get_or c.args.moduli.now c.loop-q.q-index 0 in
    let modulus = c.requires.moduli c.loop-q.q-index 0 c.loop-q-test.true in (
      grind (arith, common_steps),
      omega arith,
      omega (arith, c.scale_down-product.ensures.number, down_pos (value c.loop-q.product * q) (mul-pos c.loop-q.invariant.2 (omega (arith, modulus.0)))),
    )
