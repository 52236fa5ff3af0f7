use Rattle.std.proofs.Common.{◌<◌, arith}
use Rattle.mod_ring.specs.Zq.{modulus_of}
use Rattle.slot_factor.proofs.PackedSteps.{balanced_from, negative_row}
use Rattle.slot_factor.proofs.packed.neg.Goals as goal

pub returns : goal.returns
returns c =
    let q = modulus_of c.args.zq.now in
    let p : 0 < modulus_of c.args.zq.now = omega (arith, c.args.zq.now.in_range) in
    balanced_from q c.args.m p _ c.in_ok-row.row.items c.deref-2.result.now c.in_ok-negative.negative.items c.in_ok-row.ensures c.deref-2.ensures.value (negative_row q c.args.m p c.args.a.now c.in_ok-negative.negative.items c.deref.result.now c.in_ok-x.x.items c.in_ok-negative.ensures.value c.deref.ensures.value c.in_ok-x.ensures.value)
