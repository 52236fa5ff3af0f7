use Rattle.std.proofs.Common.{arith}
use Rattle.mod_ring.specs.Zq.{modulus_of}
use Rattle.slot_factor.proofs.PackedSteps.{difference_is}
use Rattle.slot_factor.proofs.packed.sub.Goals as goal

pub returns : goal.returns
returns c = difference_is (modulus_of c.args.zq.now) c.args.m (omega (arith, c.args.zq.now.in_range)) c.args.a.now c.args.b.now c.deref.result.now c.in_ok-minus.minus.items c.in_ok-row.row.items c.in_ok-row.ensures c.deref.ensures.value c.in_ok-minus.ensures
