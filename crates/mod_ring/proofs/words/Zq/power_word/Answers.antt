use Rattle.std.proofs.Common.{◌/◌, ◌∙◌, arith}
use Rattle.mod_ring.proofs.Powers.{even_kept, odd_kept, finished}
use Rattle.mod_ring.proofs.words.Zq.power_word.Goals as goal
use Rattle.mod_ring.proofs.words.Zq.power_word.Goals.{then-rest-eq1, else-rest-eq1}

pub loop-rest-preserved : goal.loop-rest-preserved
loop-rest-preserved c =
    let i = c.loop-rest.invariant in
    let q = c.args.self.now.q in
    let now = c.loop-rest in
    let base = c.mul_word-base in
    elim c.if-rest-eq1.branch [
      | then-rest-eq1 w ↦ record {
        power_in = omega (arith, w.power-is, w.mul_word-power.ensures.below);
        base_in = base.ensures.below;
        value = odd_kept q now.power now.base now.rest (now.rest / 2) c.if-rest-eq1.power base.result (w.power-is ∙ w.mul_word-power.ensures.value) base.ensures.value (omega arith) ∙ i.value;
      }
      | else-rest-eq1 w ↦ record {
        power_in = omega (arith, w.power-is);
        base_in = base.ensures.below;
        value = even_kept q now.power now.base now.rest (now.rest / 2) c.if-rest-eq1.power base.result w.power-is base.ensures.value (omega arith) ∙ i.value;
      }
    ]

pub returns-clause-value : goal.returns-clause-value
returns-clause-value c =
    let now = c.loop-rest in
    finished c.args.self.now.q now.power now.base now.rest _ (omega arith) now.invariant.power_in now.invariant.value
