use Rattle.std.proofs.Common.{inl, inr, sym, ◌∙◌, ap, arith, ne_eqb, eq-eqb, add-one, ◌%◌}
use Rattle.mod_ring.specs.Zq.{modulus_of}
use Rattle.moduli_table.specs.First.{all_below}
use Rattle.moduli_table.specs.Checks.{is_root_at}
use Rattle.moduli_table.proofs.FirstFaults.{root_start, root_more, root_fails, root_holds, unit_at}
use Rattle.moduli_table.proofs.roots.is_root.Goals as goal
use Rattle.moduli_table.proofs.roots.is_root.Goals.{then-m-k-eq0+else-not-is_coprime, else-m-k-eq0}

pub loop-k-init : goal.loop-k-init
loop-k-init c = root_start c.args.m (modulus_of c.args.ring.now) c.args.zeta (omega arith)

pub returns-then-not-is_coprime : goal.returns-then-not-is_coprime
returns-then-not-is_coprime c =
    let q = modulus_of c.args.ring.now in
    let m = c.args.m in
    let k = c.loop-k.k in
    sym (root_fails m q c.args.zeta k c.loop-k-test.true (eq-eqb (m % k) 0 c.if-m-k-eq0.true) (sym (unit_at q c.args.zeta k c.mul_word-omega.result c.power_word.result c.sub_word-difference.result c.modulus.result c.is_coprime.result c.mul_word-omega.ensures.value c.power_word.ensures.value c.sub_word-difference.ensures.value c.modulus.ensures c.is_coprime.ensures) ∙ c.if-not-is_coprime.true))

pub loop-k-preserved : goal.loop-k-preserved
loop-k-preserved c =
    let q = modulus_of c.args.ring.now in
    let m = c.args.m in
    let k = c.loop-k.k in
    let i = c.loop-k.invariant in
    ap (λ n. all_below n (is_root_at m q c.args.zeta)) (add-one k) ∙ (elim c.if-m-k-eq0.branch [
      | then-m-k-eq0+else-not-is_coprime w ↦ root_more m q c.args.zeta k i (inr (sym (unit_at q c.args.zeta k c.mul_word-omega.result w.power_word.result w.sub_word-difference.result w.modulus.result w.is_coprime.result c.mul_word-omega.ensures.value w.power_word.ensures.value w.sub_word-difference.ensures.value w.modulus.ensures w.is_coprime.ensures) ∙ w.if-not-is_coprime.false))
      | else-m-k-eq0 w ↦ root_more m q c.args.zeta k i (inl (ne_eqb (m % k) 0 w.if-m-k-eq0.false))
    ])

pub returns : goal.returns
returns c =
    sym (root_holds c.args.m (modulus_of c.args.ring.now) c.args.zeta c.loop-k.k (omega arith) c.loop-k.invariant)
