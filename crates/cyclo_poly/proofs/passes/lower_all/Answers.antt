use Rattle.std.proofs.Common.{◌≡◌, ◌<◌, ◌-◌, ◌∷◌, length, drop, get_or, arith}
use Rattle.std.proofs.lemmas.List.{drop_all}
use Rattle.mod_ring.specs.Zq.{modulus_of}
use Rattle.cyclo_poly.proofs.PassSteps.{less_none, less_more, drop_step}
use Rattle.cyclo_poly.proofs.passes.lower_all.Goals as goal

pub loop-t-init : goal.loop-t-init
loop-t-init c =
    let q = modulus_of c.args.zq.now in
    let p : 0 < q = omega (arith, c.args.zq.now.in_range) in
    (c.requires.below, less_none q p _ (drop_all (length c.args.strides.now) c.args.strides.now (omega arith)) _ c.requires.below)

pub loop-t-preserved : goal.loop-t-preserved
loop-t-preserved c =
    let q = modulus_of c.args.zq.now in
    let p : 0 < q = omega (arith, c.args.zq.now.in_range) in
    let s = c.args.strides.now in
    let t = c.loop-t.t in
    let e : drop (t - 1) s ≡ get_or s (t - 1) 0 ∷ drop t s = drop_step s t (omega arith) (omega arith) in
    (c.lower.ensures.below, less_more q p (drop t s) (drop (t - 1) s) (get_or s (t - 1) 0) e _ _ _ c.loop-t.invariant.0 c.loop-t.invariant.1 c.lower.ensures.value)
