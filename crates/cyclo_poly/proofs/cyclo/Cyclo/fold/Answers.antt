use Rattle.std.proofs.Common.{◌≡◌, ◌-◌, ◌<◌, ◌++◌, ◌∙◌, length, take, replicate, ap, ap₂, subst, arith}
use Rattle.cyclotomic.specs.Cyclotomic.{degree}
use Rattle.mod_ring.specs.Zq.{modulus_of}
use Rattle.cyclo_poly.specs.Kept.{IsKept}
use Rattle.cyclo_poly.specs.Strides.{IsLess}
use Rattle.cyclo_poly.proofs.CycloSteps.{kept_filled, kept_degree, kept_less, folded}
use Rattle.cyclo_poly.proofs.cyclo.Cyclo.fold.Goals as goal

pub overflow_sub-len : goal.overflow_sub-len
overflow_sub-len c = omega (arith, kept_filled _ _ _ _ _ c.self.invariant, c.self.inside.member.ok, c.len.ensures)

pub split_at_mut-low-requires : goal.split_at_mut-low-requires
split_at_mut-low-requires c = omega (arith, kept_less _ _ _ _ _ c.self.invariant, c.self.view_is, c.requires.long, c.self.inside.member.ok, c.len.ensures)

pub returns-clause-value : goal.returns-clause-value
returns-clause-value c =
    let q = modulus_of c.args.zq.now in
    let p : 0 < q = omega (arith, c.args.zq.now.in_range) in
    let m = c.args.self.now in
    let above = c.self.inside.strides.above.items in
    let below = c.self.inside.strides.below.items in
    let K : IsKept m c.self.inside.member.items c.self.inside.high above below = subst (λ z. IsKept z c.self.inside.member.items c.self.inside.high above below) c.self.view_is c.self.invariant in
    let d : c.len.result - 1 ≡ degree m = omega (arith, kept_degree m _ _ _ _ K, c.self.inside.member.ok, c.len.ensures) in
    let less = kept_less m _ _ _ _ K in
    let f = c.args.values.now in
    let a = c.lower_all.new.values in
    let s = c.raise_all.new.values in
    let low = c.split_at_mut-low.result.0.now in
    let t = c.lower_all-2.new.values in
    let b = c.raise_all-2.new.values in
    let h1 : IsLess q below f a = subst (λ z. IsLess q z f a) c.deref.ensures.value c.lower_all.ensures.value in
    let h2 : IsLess q above s a = subst (λ z. IsLess q z s a) c.deref-2.ensures.value c.raise_all.ensures.value in
    let front : low ≡ take (degree m) s = c.split_at_mut-low.ensures.front ∙ ap (λ n. take n s) d in
    let h3 : IsLess q above (take (degree m) s) t = subst (λ z. IsLess q above z t) front (subst (λ z. IsLess q z low t) c.deref-3.ensures.value c.lower_all-2.ensures.value) in
    let h4 : IsLess q below b t = subst (λ z. IsLess q z b t) c.deref-4.ensures.value c.raise_all-2.ensures.value in
    let long_s : length s ≡ m = omega (arith, c.requires.long) in
    let long_b : length b ≡ degree m = omega (arith, d, c.split_at_mut-low.ensures.front_len) in
    let rest = folded q p m above below f a s t b (omega (arith, K.m_low)) K.strides c.requires.long long_s long_b c.requires.below c.raise_all-2.ensures.below h1 h2 h3 h4 in
    let high : length c.split_at_mut-low.result.1.now ≡ m - degree m = omega (arith, d, long_s, c.split_at_mut-low.ensures.back_len) in
    ap₂ (λ y z. y ++ z) rest (c.clear.ensures ∙ ap (λ n. replicate n 0) high)
