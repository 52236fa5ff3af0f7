use Rattle.std.proofs.Common.{sym, ◌∙◌, arith}
use Rattle.slot_factor.proofs.FaultSteps.{fault_annihilated, fault_idempotent, root_holds}
use Rattle.slot_factor.proofs.UnitSteps.{unit_lengths}
use Rattle.slot_factor.proofs.passing.checked_idempotent.Goals as goal

pub idempotent-requires-clause-root : goal.idempotent-requires-clause-root
idempotent-requires-clause-root c = root_holds c.args.ext.now c.args.cube.now c.requires.divides

pub bad_slot-requires-clause-root : goal.bad_slot-requires-clause-root
bad_slot-requires-clause-root c = root_holds c.args.ext.now c.args.cube.now c.requires.divides

pub bad_slot-requires-clause-few : goal.bad_slot-requires-clause-few
bad_slot-requires-clause-few c = (unit_lengths c.args.ext.now c.requires.valid.factor c.args.cube.now c.m-m.ensures.valid c.deref.result.now (c.deref.ensures.value ∙ c.in_ok-unit.ensures.value)).1

pub returns-then-bad-slot_count-clause-refused : goal.returns-then-bad-slot_count-clause-refused
returns-then-bad-slot_count-clause-refused c = λ _ dual. fault_idempotent (record { field = c.args.ext.now; cube = c.args.cube.now; dual = dual }) c.in_ok-bad.bad c.requires.divides c.in_ok-bad.ensures (omega (arith, c.if-bad-slot_count.true, c.slot_count.ensures.value))

pub is_annihilated-requires-clause-some : goal.is_annihilated-requires-clause-some
is_annihilated-requires-clause-some c = (unit_lengths c.args.ext.now c.requires.valid.factor c.args.cube.now c.m-m.ensures.valid c.deref-2.result.now (c.deref-2.ensures.value ∙ c.in_ok-unit.ensures.value)).0

pub is_annihilated-requires-clause-few : goal.is_annihilated-requires-clause-few
is_annihilated-requires-clause-few c = (unit_lengths c.args.ext.now c.requires.valid.factor c.args.cube.now c.m-m.ensures.valid c.deref-2.result.now (c.deref-2.ensures.value ∙ c.in_ok-unit.ensures.value)).1

pub returns-then-not-branch-clause-refused : goal.returns-then-not-branch-clause-refused
returns-then-not-branch-clause-refused c =
    λ _ dual. fault_annihilated (record { field = c.args.ext.now; cube = c.args.cube.now; dual = dual }) c.in_ok-bad.bad c.requires.divides c.in_ok-bad.ensures (omega (arith, c.if-bad-slot_count.false, c.slot_count.ensures.value)) (sym c.in_ok-is_annihilated.ensures ∙ c.if-not-branch.true)

pub returns-clause-few : goal.returns-clause-few
returns-clause-few c = (unit_lengths c.args.ext.now c.requires.valid.factor c.args.cube.now c.m-m.ensures.valid c.in_ok-unit.unit.items c.in_ok-unit.ensures.value).1

pub returns-clause-some : goal.returns-clause-some
returns-clause-some c = (unit_lengths c.args.ext.now c.requires.valid.factor c.args.cube.now c.m-m.ensures.valid c.in_ok-unit.unit.items c.in_ok-unit.ensures.value).0
