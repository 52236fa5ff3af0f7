use Rattle.std.proofs.Common.{subst, sym, arith, inl, inr}
use Rattle.std.proofs.lemmas.Bool.{cases_eq}
use Rattle.algebra.specs.Divisor.{Dvd}
use Rattle.transform_tests.proofs.Tested.{Differs, found, no_divisor}
use Rattle.transform_tests.proofs.roots.differ.Goals as goal
use Rattle.transform_tests.proofs.roots.differ.Goals.{then-m-k-eq0+else-mul_word-ne1, else-m-k-eq0}

pub loop-k-preserved : goal.loop-k-preserved
loop-k-preserved c = λ j p l h. elim (cases_eq j c.loop-k.k) [
  | inr e ↦ c.loop-k.invariant j p (omega arith) h
  | inl e ↦ elim c.if-m-k-eq0.branch [
    | then-m-k-eq0+else-mul_word-ne1 w ↦ let q = c.args.ring.now.q in subst (Differs q c.args.w) (sym e) (found q c.args.w c.loop-k.k w.power_word.result w.sub_word-difference.result w.power_word-inverse.result w.mul_word.result (omega arith) c.requires.w_in w.power_word.ensures.value w.sub_word-difference.ensures.value w.power_word-inverse.ensures.below w.mul_word.ensures.value (omega arith))
    | else-m-k-eq0 w ↦ absurd (no_divisor c.loop-k.k c.args.m w.if-m-k-eq0.false (subst (λ z. Dvd z c.args.m) e h))
  ]
]
