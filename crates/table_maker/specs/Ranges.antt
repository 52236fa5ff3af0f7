-- The range of a modulus of a template.
use Rattle.std.specs.Prelude.{◌≡◌, ℕ, ◌^◌, ◌%◌, ◌<◌, ◌≤◌}

-- odd, at least 3 and below 2^62
pub record IsModulus (q : ℕ) : Type 0 where
  pub odd : q % 2 ≡ 1
  pub low : 3 ≤ q
  pub high : q < 2 ^ 62
