use Rattle.std.proofs.Common.{◌≡◌, ℕ, ◌/◌, ◌%◌, ◌<◌, true}
use Rattle.ext_field.specs.Checks.{is_dual_at}
use Rattle.ext_field.proofs.extensions.Ext.is_dual.Given as goal

abbrev pub invariant-loop-place : goal.invariant-loop-place
invariant-loop-place l = (j : ℕ) → j < l.place → is_dual_at l.self l.dual (j / l.degree) (j % l.degree) ≡ true
