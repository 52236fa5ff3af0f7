use Rattle.std.proofs.Common.{◌<◌, ◌-◌, ◌+◌, ◌≡◌, length, set, arith, refl}
use Rattle.std.proofs.lemmas.List.{length-set}
use Rattle.mod_ring.specs.Zq.{modulus_of}
use Rattle.cyclo_poly.proofs.PassSteps.{raise_init, raise_step, raise_rest, all_set}
use Rattle.cyclo_poly.proofs.passes.raise.Goals as goal

pub loop-i-init : goal.loop-i-init
loop-i-init c =
    let q = modulus_of c.args.zq.now in
    let p : 0 < q = omega (arith, c.args.zq.now.in_range) in
    (c.requires.below, raise_init q p c.args.stride _ _ (omega arith) c.requires.below, λ k l. refl)

pub loop-i-preserved : goal.loop-i-preserved
loop-i-preserved c =
    let q = modulus_of c.args.zq.now in
    let p : 0 < q = omega (arith, c.args.zq.now.in_range) in
    let t = c.loop-i.i in
    let cur = c.loop-i.values in
    let r = c.add_word.result in
    let up : t - 1 + 1 ≡ t = omega arith in
    let l : t - 1 < length cur = omega arith in (
      all_set q (t - 1) r cur (set cur (t - 1) r) refl l c.add_word.ensures.below c.loop-i.invariant.0 (length-set cur (t - 1) r),
      raise_step q p c.args.stride t (t - 1) r _ cur (set cur (t - 1) r) c.requires.positive up l c.loop-i.invariant.0 refl c.add_word.ensures.value c.loop-i.invariant.1 c.loop-i.invariant.2,
      raise_rest q p t (t - 1) r _ cur (set cur (t - 1) r) up refl c.loop-i.invariant.2,
    )
