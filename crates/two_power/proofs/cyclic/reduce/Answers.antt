use Rattle.std.proofs.Common.{◌%◌, get_or, arith, ap, ◌∙◌, inl, inr}
use Rattle.std.proofs.lemmas.Bool.{cases_lt}
use Rattle.std.proofs.Math.Nat.{mod-mod}
use Rattle.two_power.proofs.Loops.{changed_more, changed_all}
use Rattle.two_power.proofs.cyclic.reduce.Goals as goal

pub loop-i-preserved : goal.loop-i-preserved
loop-i-preserved c =
    let i = c.loop-i.i in
    let q = c.args.q in
    changed_more q q i c.reduce_once.result (λ k. get_or c.args.row.now k 0) c.args.row.now c.loop-i.row (omega arith) c.loop-i.invariant (ap (λ z. z % q) c.reduce_once.ensures.value ∙ mod-mod c.reduce_double.result q ∙ c.reduce_double.ensures.congruent ∙ ap (λ z. z % q) (c.loop-i.invariant.rest i (omega arith))) c.reduce_once.ensures.below

pub returns-clause-value : goal.returns-clause-value
returns-clause-value c = λ k. elim (cases_lt k c.loop-i.i) [
  | inl l ↦ c.loop-i.invariant.done k l
  | inr l ↦ ap (λ z. z % c.args.q) (c.loop-i.invariant.rest k l)
]

pub returns-clause-below : goal.returns-clause-below
returns-clause-below c = changed_all c.args.q c.args.q c.loop-i.i (λ k. get_or c.args.row.now k 0) c.args.row.now c.loop-i.row (omega arith) c.loop-i.invariant
