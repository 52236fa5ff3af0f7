use Rattle.std.proofs.Common.{◌≡◌, ◌<◌, ℕ, false, not}
use Rattle.slot_laws.specs.Checks.{is_idempotent_at}
use Rattle.slot_factor.proofs.checks.bad_slot.Given as goal

abbrev pub invariant-loop-slot : goal.invariant-loop-slot
invariant-loop-slot l = (v : ℕ) → v < l.slot → not (is_idempotent_at l.ext l.cube v) ≡ false
