-- The forms of the keys that tables and templates share.
use Rattle.std.specs.Prelude.{ℕ, ◌-◌, Bool, true, ◌&&◌, ◌==◌, List, [], ◌∷◌, length, sum, nat_le, nat_lt, slice_index, Option, Some, None, Result, option_and_then, if◌then◌else◌}
use Rattle.std.specs.List.{list_all}
use Rattle.line_text.specs.declared.kinds.TableKey.{TableKey}
use Rattle.line_text.specs.declared.kinds.TableKey.TheVariants.{M, P, Factor, Dual, Generators, Weight, Digits, Chain}
use Rattle.table_keys.specs.declared.faults.DocumentFault.{DocumentFault}
use Rattle.table_keys.specs.Values.{◌>>=◌, shaped, passed, count_of, each_of, value_at, number_at, numbers_at, rows_at}
use Rattle.toml.specs.Data.{Members}

-- from low to high
abbrev pub is_within : ℕ → ℕ → ℕ → Bool
is_within low high n = nat_le low n && nat_le n high

-- a number from low to high
unfoldable pub number_within : TableKey → ℕ → ℕ → Members → Result ℕ DocumentFault
number_within key low high members = do
  n ← shaped key (number_at key members)
  passed key (is_within low high n) n

abbrev pub m_of : Members → Result ℕ DocumentFault
m_of members = number_within M 3 65536 members

abbrev pub p_of : Members → Result ℕ DocumentFault
p_of members = number_within P 2 131071 members

abbrev pub weight_of : Members → Result ℕ DocumentFault
weight_of members = number_within Weight 1 65536 members

abbrev pub are_below : ℕ → List ℕ → Bool
are_below p numbers = list_all (λ c. nat_lt c p) numbers

-- the coefficients of a monic polynomial over the numbers below p, of degree 1 to 64
unfoldable pub is_factor : ℕ → List ℕ → Bool
is_factor p coeffs = is_within 2 65 (length coeffs) && (are_below p coeffs && slice_index coeffs (length coeffs - 1) == 1)

unfoldable pub factor_of : ℕ → Members → Result (List ℕ) DocumentFault
factor_of p members = do
  coeffs ← numbers_at Factor members
  passed Factor (is_factor p coeffs) coeffs

-- d numbers below p
abbrev pub is_dual_row : ℕ → ℕ → List ℕ → Bool
is_dual_row p d row = length row == d && are_below p row

-- d lists of d numbers below p
unfoldable pub is_dual : ℕ → ℕ → List (List ℕ) → Bool
is_dual p d rows = length rows == d && list_all (is_dual_row p d) rows

unfoldable pub dual_of : ℕ → ℕ → Members → Result (List (List ℕ)) DocumentFault
dual_of p d members = do
  rows ← rows_at Dual members
  passed Dual (is_dual p d rows) rows

-- a pair [g, D] with 1 <= g < m and 1 <= D <= m
unfoldable pub generator_of : ℕ → List ℕ → Option (ℕ × ℕ)
generator_of m [] = None
generator_of m (g ∷ []) = None
generator_of m (g ∷ size ∷ []) = if (nat_le 1 g && nat_lt g m) && is_within 1 m size then Some (g, size) else None
generator_of m (g ∷ size ∷ n ∷ more) = None

-- at most 16 such pairs
unfoldable pub generators_of : ℕ → Members → Result (List (ℕ × ℕ)) DocumentFault
generators_of m members = do
  rows ← rows_at Generators members
  pairs ← shaped Generators (each_of (generator_of m) rows)
  passed Generators (nat_le (length pairs) 16) pairs

-- how many elements the list at `chain` has, where a list is there, whatever it holds
unfoldable pub chain_count : Members → Option ℕ
chain_count members = option_and_then count_of (value_at Chain members)

-- numbers that add up to the count, where there is one
abbrev pub adds_up : Option ℕ → List ℕ → Bool
adds_up None sizes = true
adds_up (Some count) sizes = sum sizes == count

-- the sizes of groups: each 1 or more, and as many elements in all as the chain has
unfoldable pub digits_of : Members → Result (List ℕ) DocumentFault
digits_of members = do
  sizes ← numbers_at Digits members
  passed Digits (list_all (nat_le 1) sizes && adds_up (chain_count members) sizes) sizes
