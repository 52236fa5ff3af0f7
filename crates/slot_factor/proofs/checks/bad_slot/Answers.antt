use Rattle.std.proofs.Common.{sym, ◌∙◌, arith}
use Rattle.slot_factor.proofs.CheckSteps.{bad_found, bad_none}
use Rattle.slot_factor.proofs.checks.bad_slot.Goals as goal

pub returns-then-not-branch : goal.returns-then-not-branch
returns-then-not-branch c = bad_found c.args.ext.now c.args.cube.now c.loop-slot.slot (omega (arith, c.loop-slot-test.true, c.slot_count-count.ensures.value)) (sym c.in_ok-is_right.ensures ∙ c.if-not-branch.true) c.loop-slot.invariant

pub returns : goal.returns
returns c = bad_none c.args.ext.now c.args.cube.now c.loop-slot.slot c.slot_count-count.result c.slot_count-count.ensures.value (omega (arith, c.loop-slot-test.false)) c.loop-slot.invariant
