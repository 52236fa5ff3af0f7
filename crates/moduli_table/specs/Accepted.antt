-- What holds of the moduli of a table that passes its checks.
use Rattle.std.specs.Prelude.{◌≡◌, ◌≢◌, ℕ, ◌-◌, ◌*◌, ◌/◌, ◌%◌, ◌^◌, ◌<◌, ◌≤◌, nat_lt}
use Rattle.algebra.specs.Divisor.{Dvd, HasInverse}
use Rattle.algebra.specs.Power.{less, power, number}
use Rattle.algebra.specs.Ring.{residues}
use Rattle.cyclotomic.specs.RootLaws.{HasHeldInverse, IsRootPair}
use Rattle.moduli_table.specs.declared.rows.ModRow.{ModRow}
use Rattle.moduli_table.specs.Chain.{Chain, IsShaped, count, row_at, modulus_at, entry_at}
use Rattle.moduli_table.specs.Checks.{two_power, omega_of, power_less_one}

-- e is the inverse of k modulo q
pub record IsInverse (q k e : ℕ) : Type 0 where
  pub below : e < q
  pub one : k * e % q ≡ 1

-- the modulus and the roots of an accepted row
pub record IsAcceptedRow (m : ℕ) (r : ModRow) : Type 0 where
  pub odd : r.q % 2 ≡ 1
  pub low : 3 ≤ r.q
  pub high : r.q < 2 ^ 62
  pub zeta_in : r.zeta < r.q
  pub psi_in : r.psi < r.q
  pub residue : r.q % m ≡ 1
  pub half_root : r.zeta ^ (2 * m) % r.q ≡ 1
  pub root : (k : ℕ) → 0 < k → k < m → Dvd k m → HasInverse r.q (power_less_one r.q (omega_of r.q r.zeta) k)
  pub two_root : r.psi ^ (two_power m / 2) % r.q ≡ r.q - 1

pub record AreModuli (c : Chain) : Type 0 where
  pub rows : (i : ℕ) → i < count c → IsAcceptedRow c.m (row_at c i)
  pub inverses : (i j : ℕ) → i < j → j < count c → IsInverse (modulus_at c j) (modulus_at c i) (entry_at c i j)
  pub plain : (i : ℕ) → i < count c → IsInverse c.p (modulus_at c i) (row_at c i).plain_inverse

pub record IsAccepted (c : Chain) : Type 0 where
  pub shaped : IsShaped c
  pub moduli : AreModuli c

-- from e, the inverse of r modulo q, the inverse of q modulo r
abbrev pub turned : ℕ → ℕ → ℕ → ℕ
turned q r e = r - (r * e - 1) / q

module _ (m : ℕ) (r : ModRow) where
  abbrev pub HasInverseInRow : ℕ → Type 0
  HasInverseInRow a = HasHeldInverse (λ a. nat_lt a r.q) (residues r.q) a

  abbrev pub omega_power : ℕ → ℕ
  omega_power i = power (residues r.q) (omega_of r.q r.zeta) i

  -- omega is a root with an inverse, and m and the differences of its powers have inverses modulo q
  pub record AreRoots : Type 0 where
    pub pair : IsRootPair (λ a. nat_lt a r.q) (residues r.q) (omega_of r.q r.zeta) (omega_power (m - 1)) m
    pub order : HasInverseInRow (number (residues r.q) m)
    pub differences : (i j : ℕ) → i < m → j < m → i ≢ j → HasInverseInRow (less (residues r.q) (omega_power i) (omega_power j))
