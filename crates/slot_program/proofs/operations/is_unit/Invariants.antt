use Rattle.std.proofs.Common.{ℕ, ◌↔◌}
use Rattle.algebra.specs.Divisor.{Dvd}
use Rattle.slot_program.proofs.operations.is_unit.Given as goal

abbrev pub invariant-euclid : goal.invariant-euclid
invariant-euclid l = (d : ℕ) → (Dvd d l.a × Dvd d l.b) ↔ (Dvd d l.k × Dvd d l.m)

abbrev pub decreases-euclid : goal.decreases-euclid
decreases-euclid l = l.b
