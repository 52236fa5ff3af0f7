use Rattle.std.proofs.Common.{arith}
use Rattle.mod_ring.specs.Zq.{modulus_of}
use Rattle.slot_factor.proofs.RowSteps.{product_is}
use Rattle.slot_factor.proofs.rows.product.Goals as goal

pub returns-clause-value : goal.returns-clause-value
returns-clause-value c = product_is (modulus_of c.args.zq.now) c.args.a.now c.args.b.now c.loop-i.list.items c.loop-i.i c.requires.a_some c.requires.b_some (omega (arith, c.loop-i-test.false, c.loop-i.auto.i-end)) c.loop-i.invariant.value
