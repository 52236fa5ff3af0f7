-- The roots and inverses that a table is filled with.
use Rattle.std.specs.Prelude.{◌≡◌, ℕ, ◌+◌, ◌-◌, ◌*◌, ◌/◌, ◌%◌, ◌^◌, ◌<◌, ◌≤◌, ◌==◌, ◌&&◌, Bool, false, IsTrue, MatchOption, Option, None, Some, unwrap_or, if◌then◌else◌}
use Rattle.algebra.specs.Divisor.{is_divisor}
use Rattle.moduli_table.specs.First.{first_below, least_below}
use Rattle.moduli_table.specs.Checks.{two_power, is_half_root, is_root, is_two_root}

-- the number below q that is the inverse of a modulo q, or 0 where there is none
unfoldable pub inverse_or_zero : ℕ → ℕ → ℕ
inverse_or_zero q a = unwrap_or (least_below q (λ x. a * x % q == 1)) 0

module _ (m q : ℕ) where
  -- zeta and psi by the base g
  abbrev pub zeta_by : ℕ → ℕ
  zeta_by g = g ^ ((q - 1) / (2 * m)) % q

  abbrev pub psi_by : ℕ → ℕ
  psi_by g = g ^ ((q - 1) / two_power m) % q

  -- the base g passes
  abbrev pub is_base : ℕ → Bool
  is_base g =
      is_divisor (2 * m) (q - 1) && is_divisor (two_power m) (q - 1)
      && is_half_root m q (zeta_by g) && is_two_root m q (psi_by g) && is_root m q (zeta_by g)

  unfoldable pub roots_by : ℕ → Option (ℕ × ℕ)
  roots_by g = if is_base g then Some (zeta_by g, psi_by g) else None

  -- zeta and psi by the least base from 2 to 1000 that passes
  unfoldable pub roots_of : Option (ℕ × ℕ)
  roots_of = first_below 999 (λ t. roots_by (2 + t))

-- g is the least base from 2 to 1000 that passes, and these are its roots
pub record IsLeastBase (m q g : ℕ) (roots : ℕ × ℕ) : Type 0 where
  pub low : 2 ≤ g
  pub high : g ≤ 1000
  pub passes : IsTrue (is_base m q g)
  pub least : (h : ℕ) → 2 ≤ h → h < g → is_base m q h ≡ false
  pub roots_are : roots ≡ (zeta_by m q g, psi_by m q g)

-- what the search finds
abbrev pub FindsLeastBase : Type 0
FindsLeastBase =
    (m q : ℕ) → MatchOption (roots_of m q)
    ((g : ℕ) → 2 ≤ g → g ≤ 1000 → is_base m q g ≡ false)
    (λ roots. (g : ℕ) × IsLeastBase m q g roots)
