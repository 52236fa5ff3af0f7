use Rattle.std.proofs.Common.{◌≡◌, ◌≤◌, ◌+◌, ◌-◌, ◌*◌, ◌%◌, ◌^◌, ap, ap₂, sym, ◌∙◌, subst, take, drop, length, get_or, arith}
use Rattle.two_power.specs.Tree.{value, root, IsTree}
use Rattle.two_power.specs.Convolution.{Convolver}
use Rattle.two_power.proofs.Product.{both_halves}
use Rattle.two_power.proofs.cyclic.Cyclic.convolve.Goals as goal

pub returns-clause-value : goal.returns-clause-value
returns-clause-value c = λ f H j m.
    let k = c.args.self.now in
    let tables = c.self.invariant in
    let half : length c.args.lo.now ≡ 2 ^ (k.levels - 1) = c.requires.lo_size in
    let above : 2 ≤ k.q = subst (λ (k : Convolver). 2 ≤ k.q) c.self.view_is tables.above in
    let some : 1 ≤ k.levels = subst (λ (k : Convolver). 1 ≤ k.levels) c.self.view_is tables.some in
    both_halves k.q above k.ws (subst (λ (k : Convolver). IsTree k.q k.ws) c.self.view_is tables.tree) (subst (λ (k : Convolver). get_or k.ws 0 0 ≡ 1) c.self.view_is tables.first) k.levels (k.levels - 1) (omega (arith, some)) (subst (λ (k : Convolver). length k.ws ≡ 2 ^ (k.levels - 1)) c.self.view_is tables.size) f c.args.lo.now k.values H.long half H.are_values c.split_at.result.0.now c.split_at.result.1.now c.convolve_below.new.a c.convolve_below-2.new.a (c.split_at.ensures.front ∙ ap₂ take half (c.deref.ensures.value ∙ ap (λ (k : Convolver). k.values) c.self.view_is)) (c.split_at.ensures.back ∙ ap₂ drop half (c.deref.ensures.value ∙ ap (λ (k : Convolver). k.values) c.self.view_is)) c.convolve_below.ensures.product (λ p long h. c.convolve_below-2.ensures.product p long (λ i n. h i n ∙ ap (λ z. (get_or c.split_at.result.1.now i 0 * value z (root k.q k.ws (1 * 2 ^ (k.levels - 1) + i))) % k.q) (sym c.copy_from_slice.ensures.after))) j (omega (arith, half))
