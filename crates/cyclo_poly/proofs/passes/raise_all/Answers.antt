use Rattle.std.proofs.Common.{◌<◌, take, get_or, arith, refl}
use Rattle.std.proofs.lemmas.List.{take_more}
use Rattle.mod_ring.specs.Zq.{modulus_of}
use Rattle.cyclo_poly.proofs.PassSteps.{less_none, raise_more}
use Rattle.cyclo_poly.proofs.passes.raise_all.Goals as goal

pub loop-t-init : goal.loop-t-init
loop-t-init c =
    let q = modulus_of c.args.zq.now in
    let p : 0 < q = omega (arith, c.args.zq.now.in_range) in
    (c.requires.below, less_none q p _ refl _ c.requires.below)

pub loop-t-preserved : goal.loop-t-preserved
loop-t-preserved c =
    let q = modulus_of c.args.zq.now in
    let p : 0 < q = omega (arith, c.args.zq.now.in_range) in
    let s = c.args.strides.now in
    let t = c.loop-t.t in
    (c.raise.ensures.below, raise_more q p (take t s) _ (get_or s t 0) (take_more s t 0 (omega arith)) _ _ _ c.loop-t.invariant.0 c.raise.ensures.below c.loop-t.invariant.1 c.raise.ensures.value)
