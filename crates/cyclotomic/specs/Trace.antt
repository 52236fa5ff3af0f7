-- A map repeated, and the sum of its repetitions.
use Rattle.std.specs.Prelude.{ℕ, zero, suc}
use Rattle.algebra.specs.Ring.{Ops}
use Rattle.algebra.specs.Range.{total, adds}

-- f(f(.. f(x))), j times
abbrev pub repeated : {C : Type 0} → (C → C) → ℕ → C → C
repeated f zero x = x
repeated f (suc j) x = f (repeated f j x)

-- x + f(x) + .. + f(f(.. x)), d terms
abbrev pub trace : {C : Type 0} → Ops C → (C → C) → ℕ → C → C
trace o f d x = total (adds o) d (λ j. repeated f j x)
