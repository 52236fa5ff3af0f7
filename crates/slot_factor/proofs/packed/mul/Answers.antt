use Rattle.std.proofs.Common.{◌<◌, arith}
use Rattle.mod_ring.specs.Zq.{modulus_of}
use Rattle.slot_factor.proofs.PackedSteps.{balanced_from, product_row}
use Rattle.slot_factor.proofs.packed.mul.Goals as goal

pub returns : goal.returns
returns c =
    let q = modulus_of c.args.zq.now in
    let p : 0 < modulus_of c.args.zq.now = omega (arith, c.args.zq.now.in_range) in
    balanced_from q c.args.cyclo.now p _ c.in_ok-row.row.items c.deref-3.result.now c.in_ok-product.product.items c.in_ok-row.ensures c.deref-3.ensures.value (product_row q c.args.cyclo.now p (omega (arith, c.m-m.ensures.low)) c.args.a.now c.args.b.now c.in_ok-product.product.items c.deref.result.now c.deref-2.result.now c.in_ok-x.x.items c.in_ok-y.y.items c.in_ok-product.ensures.value c.deref.ensures.value c.in_ok-x.ensures.value c.deref-2.ensures.value c.in_ok-y.ensures.value)
