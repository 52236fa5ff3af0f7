use Rattle.ext_field.proofs.Duals.{passed_more, none_fails, none_basis, one_fails, one_first}
use Rattle.ext_field.proofs.extensions.Ext.is_dual.Goals as goal

pub loop-place-preserved : goal.loop-place-preserved
loop-place-preserved c = passed_more c.args.self.now c.args.dual.now c.degree-degree.ensures.valid.factor _ c.degree-degree.ensures.value c.loop-place.place _ _ c.requires.long c.loop-place.invariant c.loop-place-test.true c.index-dual-i.is c.in_ok-is_dual_at.ensures c.if-not-branch.false

pub returns-then-not-branch-clause-first : goal.returns-then-not-branch-clause-first
returns-then-not-branch-clause-first c = one_first c.args.self.now c.args.dual.now c.degree-degree.ensures.valid.factor _ c.degree-degree.ensures.value c.loop-place.place _ _ c.requires.long c.loop-place.invariant c.loop-place-test.true c.index-dual-i.is c.in_ok-is_dual_at.ensures c.if-not-branch.true

pub returns-then-not-branch-clause-fault : goal.returns-then-not-branch-clause-fault
returns-then-not-branch-clause-fault c = one_fails c.args.self.now c.args.dual.now c.degree-degree.ensures.valid.factor _ c.degree-degree.ensures.value c.loop-place.place _ _ c.requires.long c.loop-place.invariant c.loop-place-test.true c.index-dual-i.is c.in_ok-is_dual_at.ensures c.if-not-branch.true

pub returns-clause-first : goal.returns-clause-first
returns-clause-first c = none_basis c.args.self.now c.args.dual.now c.degree-degree.ensures.valid.factor _ c.degree-degree.ensures.value c.loop-place.place c.loop-place.invariant c.loop-place-test.false

pub returns-clause-fault : goal.returns-clause-fault
returns-clause-fault c = none_fails c.args.self.now c.args.dual.now c.degree-degree.ensures.valid.factor _ c.degree-degree.ensures.value c.loop-place.place c.loop-place.invariant c.loop-place-test.false
