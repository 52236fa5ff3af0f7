use Rattle.std.proofs.Common.{◌≡◌, ℕ, take}
use Rattle.std.specs.Ordering.{nat_cmp}
use Rattle.std.specs.BTreeSet.{contains}
use Rattle.slot_program.specs.Kinds.{is_key}
use Rattle.slot_program.proofs.automorphisms.keys_of.Given as goal

abbrev pub invariant-loop-step : goal.invariant-loop-step
invariant-loop-step l = (q : ℕ) → contains nat_cmp l.keys q ≡ is_key (take l.step-index l.step-items) q
