use Rattle.std.proofs.Common.{◌∙◌, ap, sym}
use Rattle.table_file.proofs.accepting.accept.Goals as goal

pub invariant_of-result : goal.invariant_of-result
invariant_of-result c = record {
  same_m = c.in_ok-slots.ensures.cyclo ∙ sym (ap (λ s. s.cube.m) (c.in_ok-slots-2.ensures.ok ∙ c.in_ok-slots.ensures.slots));
  same_slots = c.in_ok-scheme.ensures.slots;
  scheme_m = c.in_ok-scheme.ensures.m;
}
