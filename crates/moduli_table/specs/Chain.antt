-- The moduli of a table, with their roots and inverses.
use Rattle.std.specs.Prelude.{◌≡◌, ℕ, ◌+◌, ◌<◌, ◌≤◌, List, [], ◌++◌, length, slice_index_or}
use Rattle.moduli_table.specs.declared.rows.ModRow.{ModRow}

-- m, p, the rows of the chain and the special ones, and for each modulus the list of the inverses modulo it of the moduli
-- before it; the moduli are numbered from 0, those of the chain first
pub record Chain : Type 0 where
  pub m : ℕ
  pub p : ℕ
  pub chain : List ModRow
  pub special : List ModRow
  pub inverse : List (List ℕ)

abbrev pub no_row : ModRow
no_row = record { q = 0; zeta = 0; psi = 0; plain_inverse = 0 }

module _ (c : Chain) where
  -- how many moduli there are
  abbrev pub count : ℕ
  count = length c.chain + length c.special

  -- the row of modulus i
  abbrev pub row_at : ℕ → ModRow
  row_at i = slice_index_or (c.chain ++ c.special) i no_row

  -- modulus i
  abbrev pub modulus_at : ℕ → ℕ
  modulus_at i = (row_at i).q

  -- the table's inverse of modulus i modulo modulus j
  abbrev pub entry_at : ℕ → ℕ → ℕ
  entry_at i j = slice_index_or (slice_index_or c.inverse j []) i 0

  -- what every table has before its checks
  pub record IsShaped : Type 0 where
    pub m_low : 3 ≤ c.m
    pub m_high : c.m ≤ 65536
    pub p_low : 2 ≤ c.p
    pub p_high : c.p ≤ 131071
    pub chain_low : 1 ≤ length c.chain
    pub chain_high : length c.chain ≤ 32
    pub special_low : 1 ≤ length c.special
    pub special_high : length c.special ≤ 16
    pub lists : length c.inverse ≡ count
    pub entries : (j : ℕ) → j < count → length (slice_index_or c.inverse j []) ≡ j
