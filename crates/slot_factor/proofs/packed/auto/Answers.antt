use Rattle.std.proofs.Common.{◌<◌, arith}
use Rattle.mod_ring.specs.Zq.{modulus_of}
use Rattle.slot_factor.proofs.PackedSteps.{balanced_from, image_row}
use Rattle.slot_factor.proofs.packed.auto.Goals as goal

pub returns : goal.returns
returns c =
    let q = modulus_of c.args.zq.now in
    let p : 0 < modulus_of c.args.zq.now = omega (arith, c.args.zq.now.in_range) in
    balanced_from q c.args.cyclo.now p _ c.in_ok-row.row.items c.deref-2.result.now c.in_ok-image.image.items c.in_ok-row.ensures c.deref-2.ensures.value (image_row q c.args.cyclo.now p (omega (arith, c.m-m.ensures.low)) c.args.k c.args.a.now c.in_ok-image.image.items c.deref.result.now c.in_ok-x.x.items c.in_ok-image.ensures.value c.deref.ensures.value c.in_ok-x.ensures.value)
