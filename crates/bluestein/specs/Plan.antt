-- Roots of unity modulo a number that need not be prime, and the values of a polynomial at the powers of one.
use Rattle.std.specs.Prelude.{◌≡◌, ℕ, ◌-◌, ◌*◌, ◌/◌, ◌%◌, ◌^◌, ◌<◌, ◌≤◌, nat_lt, All, List, map, length}
use Rattle.algebra.specs.Ring.{residues}
use Rattle.algebra.specs.Power.{power}
use Rattle.algebra.specs.Poly.{value_at}
use Rattle.algebra.specs.Whole.{below}
use Rattle.cyclotomic.specs.RootLaws.{IsHeldRoot}

-- the modulus q, the number m of values, a root of unity zeta of order 2m, and psi of the order of a convolution
pub record Roots : Type 0 where
  pub q : ℕ
  pub m : ℕ
  pub zeta : ℕ
  pub psi : ℕ

-- the modulus and the number of values that a scratch has room for
pub record Room : Type 0 where
  pub q : ℕ
  pub m : ℕ

-- zeta^2, at whose powers the values are taken
abbrev pub square : ℕ → ℕ → ℕ
square q zeta = (zeta * zeta) % q

-- n is the least power of two that is at least low
pub record IsLeastPower (low n : ℕ) : Type 0 where
  pub exponent : ℕ
  pub is_power : n ≡ 2 ^ exponent
  pub enough : low ≤ n
  pub least : n < 2 * low

pub record AreRoots (q m zeta psi : ℕ) : Type 0 where
  pub some : 3 ≤ m
  pub few : m ≤ 65536
  pub odd : q % 2 ≡ 1
  pub above : 3 ≤ q
  pub small : q < 2 ^ 62
  pub zeta_in : zeta < q
  pub psi_in : psi < q
  pub one_more : q % m ≡ 1
  pub zeta_order : zeta ^ (2 * m) % q ≡ 1
  pub is_root : IsHeldRoot (λ a. nat_lt a q) (residues q) (square q zeta) m
  pub size : ℕ
  pub is_size : IsLeastPower (2 * m - 1) size
  pub psi_half : psi ^ (size / 2) % q ≡ q - 1

-- the value at the power j of zeta^2
abbrev pub value_of : Roots → List ℕ → ℕ → ℕ
value_of r a j = value_at (residues r.q) (power (residues r.q) (square r.q r.zeta) j) a

-- the m values
abbrev pub values_of : Roots → List ℕ → List ℕ
values_of r a = map (value_of r a) (below r.m)

-- m residues
pub record IsRow (r : Roots) (a : List ℕ) : Type 0 where
  pub long : length a ≡ r.m
  pub residues : All (λ c. c < r.q) a

-- m values determine the m coefficients
abbrev pub ValuesDetermine : Type 0
ValuesDetermine = (r : Roots) → AreRoots r.q r.m r.zeta r.psi → (a b : List ℕ) → IsRow r a → IsRow r b → values_of r a ≡ values_of r b → a ≡ b
