-- The places of the units in their list.
use Rattle.std.specs.Prelude.{◌≡◌, ℕ, ◌<◌, List, length, get_or}
use Rattle.algebra.specs.Divisor.{units}

-- at each unit its place among the units modulo m
pub record ArePlaces (m : ℕ) (places : List ℕ) : Type 0 where
  pub long : length places ≡ m
  pub right : (u : ℕ) → u < length (units m) → get_or places (get_or (units m) u 0) 0 ≡ u
