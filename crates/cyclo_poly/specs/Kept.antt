-- What a `Cyclo` keeps.
use Rattle.std.specs.Prelude.{◌≡◌, ℕ, ◌^◌, ◌<◌, ◌≤◌, false, List, ℤ}
use Rattle.cyclotomic.specs.Cyclotomic.{phi}
use Rattle.cyclotomic.specs.Norm.{height}
use Rattle.cyclo_poly.specs.Strides.{AreStrides}
use Rattle.cyclo_poly.specs.Tall.{is_tall}

-- m is from 3 to 65536 and not tall, and the tables are those of m
pub record IsKept (m : ℕ) (member : List ℤ) (high : ℕ) (above below : List ℕ) : Type 0 where
  pub m_low : 3 ≤ m
  pub m_high : m ≤ 2 ^ 16
  pub fits : is_tall m ≡ false
  pub member_is : member ≡ phi m
  pub height_is : high ≡ height m
  pub high_low : 1 ≤ high
  pub high_high : high < 2 ^ 31
  pub strides : AreStrides m above below
