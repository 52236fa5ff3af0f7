use Rattle.std.proofs.Common.{◌<◌, arith}
use Rattle.std.proofs.lemmas.List.Elements.{All-push}
use Rattle.mod_ring.specs.Zq.{modulus_of}
use Rattle.ring_tests.proofs.cyclo.row.Goals as goal

pub loop-i-preserved : goal.loop-i-preserved
loop-i-preserved c = (omega (arith, c.in_ok-push.ensures.len, c.loop-i.invariant.0), rw c.in_ok-push.ensures.items (All-push (λ x. x < modulus_of c.args.zq.now) c.loop-i.list.items c.from_signed.result c.loop-i.invariant.1 c.from_signed.ensures.below))
