use Rattle.std.proofs.Common.{◌<◌, arith}
use Rattle.mod_ring.specs.Zq.{modulus_of}
use Rattle.cyclo_poly.proofs.PassSteps.{lower_done}
use Rattle.cyclo_poly.proofs.passes.lower.Goals as goal

pub returns-clause-value : goal.returns-clause-value
returns-clause-value c =
    let q = modulus_of c.args.zq.now in
    let p : 0 < q = omega (arith, c.args.zq.now.in_range) in
    lower_done q p c.args.stride c.loop-i.i _ _ (omega arith) c.requires.below c.loop-i.invariant.1 c.loop-i.invariant.2
