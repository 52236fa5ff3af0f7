-- How many products there are.
use Rattle.std.specs.Prelude.{◌≢◌, ℕ, zero, suc, ◌*◌, ◌<◌, ◌≤◌}
use Rattle.std.proofs.Common.{arith}

pub too_many : (d n units : ℕ) → 1 ≤ d → units < n → d * n ≢ units
too_many zero n units l h e = omega arith
too_many (suc d) n units l h e = omega (arith, h, e)
