use Rattle.std.proofs.Common.{map, ap, sym, ◌∙◌, refl}
use Rattle.std.proofs.lemmas.List.{map-id}
use Rattle.ext_field.specs.Checks.{dual_fault}
use Rattle.slot_laws.specs.Checks.{bad_slot}
use Rattle.slot_factor.proofs.FaultSteps.{fault_complete, fault_dual}
use Rattle.slot_factor.proofs.passing.checked_inverses.Goals as goal

pub returns-then-not-branch-clause-refused : goal.returns-then-not-branch-clause-refused
returns-then-not-branch-clause-refused c =
    λ _. fault_complete (record { field = c.args.ext.now; cube = c.args.cube.now; dual = map (λ a. a) c.args.dual.now }) (bad_slot c.args.ext.now c.args.cube.now) c.requires.divides refl c.requires.slots c.requires.annihilated (sym c.in_ok-is_complete.ensures ∙ c.if-not-branch.true)

pub returns-in-Some-clause-refused : goal.returns-in-Some-clause-refused
returns-in-Some-clause-refused c =
    λ _. fault_dual (record { field = c.args.ext.now; cube = c.args.cube.now; dual = map (λ a. a) c.args.dual.now }) (bad_slot c.args.ext.now c.args.cube.now) c.requires.divides refl c.requires.slots c.requires.annihilated (sym c.in_ok-is_complete.ensures ∙ c.if-not-branch.false) c.in-Some.i c.in-Some.k (ap (dual_fault c.args.ext.now) (map-id c.args.dual.now) ∙ sym c.in_ok-i.ensures.fault ∙ c.in-Some.is)
