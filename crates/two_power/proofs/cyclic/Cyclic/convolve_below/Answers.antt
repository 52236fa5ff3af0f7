use Rattle.std.proofs.Common.{◌≡◌, ◌-◌, ◌*◌, ◌%◌, ◌^◌, ◌+◌, ap, sym, ◌∙◌, subst, get_or, arith}
use Rattle.two_power.specs.Tree.{value, root, AreInverses}
use Rattle.two_power.specs.Convolution.{Convolver}
use Rattle.two_power.proofs.Congruent.{times_congruent}
use Rattle.two_power.proofs.cyclic.Cyclic.convolve_below.Goals as goal

pub returns-clause-product : goal.returns-clause-product
returns-clause-product c =
    let tables = c.self.invariant in
    let q = c.self.inside.q in
    let l = c.self.inside.levels - 1 in
    let ws = c.self.inside.ws.items in
    let size_is : 2 ^ l ≡ 2 ^ (c.args.self.now.levels - 1) = ap (λ (k : Convolver). 2 ^ (k.levels - 1)) c.self.view_is in
    rw (← c.self.view_is) (λ p long h. c.ascend.ensures.values ws p tables.tree (subst (AreInverses q ws) (sym c.deref-3.ensures.value) tables.inverses) long (λ j m.
    c.multiply.ensures.value j (omega (arith, size_is)) ∙ times_congruent q (get_or c.args.values.now j 0) (get_or c.descend.new.a j 0) (value c.args.a.now (root q ws (c.args.node * 2 ^ l + j))) (c.descend.ensures.values j m ∙ ap (λ z. value c.args.a.now (root q z (c.args.node * 2 ^ l + j)) % q) c.deref.ensures.value) ∙ sym (h j m)))
