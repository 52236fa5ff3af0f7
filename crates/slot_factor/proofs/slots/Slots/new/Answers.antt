use Rattle.std.proofs.Common.{map, ap, refl, sym, ◌∙◌}
use Rattle.std.proofs.lemmas.List.{map-id}
use Rattle.ext_field.specs.Checks.{dual_fault}
use Rattle.slot_laws.specs.Checks.{bad_slot}
use Rattle.slot_factor.proofs.FaultSteps.{fault_none, packing_made}
use Rattle.slot_factor.proofs.slots.Slots.new.Goals as goal

pub invariant_of-result : goal.invariant_of-result
invariant_of-result c = record {
  packing = packing_made (record { field = c.args.ext; cube = c.args.cube; dual = map (λ a. a) c.args.dual.items }) (bad_slot c.args.ext c.args.cube) c.in_ok-powers.ensures.divides refl c.in_ok-unit.ensures.slots c.p-p.ensures.valid c.m-m.ensures.valid c.requires.same_p c.requires.same_d c.in_ok-unit.ensures.annihilated c.in_ok-inverses.ensures.complete;
  same_m = c.in_ok-cyclo.ensures ∙ c.requires.same_m;
  same_q = c.ring_of-zq.ensures;
  powers = c.in_ok-powers.ensures.powers;
  unit = c.in_ok-unit.ensures.unit;
  some = c.in_ok-unit.ensures.some;
  few = c.in_ok-unit.ensures.few;
  inverses = c.in_ok-inverses.ensures.inverses;
}

pub returns-clause-passed : goal.returns-clause-passed
returns-clause-passed c = fault_none (record { field = c.args.ext; cube = c.args.cube; dual = map (λ a. a) c.args.dual.items }) (bad_slot c.args.ext c.args.cube) c.in_ok-powers.ensures.divides refl c.in_ok-unit.ensures.slots c.in_ok-unit.ensures.annihilated c.in_ok-inverses.ensures.complete (ap (dual_fault c.args.ext) (map-id c.args.dual.items ∙ sym c.deref-3.ensures.value) ∙ c.in_ok-inverses.ensures.dual)

pub returns-clause-valid : goal.returns-clause-valid
returns-clause-valid c = packing_made (record { field = c.args.ext; cube = c.args.cube; dual = map (λ a. a) c.args.dual.items }) (bad_slot c.args.ext c.args.cube) c.in_ok-powers.ensures.divides refl c.in_ok-unit.ensures.slots c.p-p.ensures.valid c.m-m.ensures.valid c.requires.same_p c.requires.same_d c.in_ok-unit.ensures.annihilated c.in_ok-inverses.ensures.complete
