-- The checks of the moduli of a table: the first that fails, in the order of the checks and then of the places.
use Rattle.std.specs.Prelude.{ℕ, ◌+◌, ◌-◌, ◌*◌, ◌/◌, ◌%◌, ◌^◌, ◌==◌, nat_lt, nat_le, Bool, not, ◌&&◌, ◌||◌, Option, None, Some, unwrap_or, if◌then◌else◌}
use Rattle.std.specs.Option.{option_or}
use Rattle.algebra.specs.Divisor.{is_divisor, is_unit}
use Rattle.moduli_table.specs.declared.rows.ModRow.{ModRow}
use Rattle.moduli_table.specs.declared.faults.ModFault.{ModFault}
use Rattle.moduli_table.specs.declared.faults.ModFault.TheVariants.{Size, Residue, HalfRoot, Root, TwoRoot, Inverse, PlainInverse}
use Rattle.moduli_table.specs.First.{first_below, least_below, all_below}
use Rattle.moduli_table.specs.Chain.{Chain, count, row_at, modulus_at, entry_at}

-- the least power of two that is at least 2m - 1
unfoldable pub two_power : ℕ → ℕ
two_power m = 2 ^ unwrap_or (least_below (2 * m) (λ e. nat_le (2 * m - 1) (2 ^ e))) 0

-- omega = zeta^2
abbrev pub omega_of : ℕ → ℕ → ℕ
omega_of q zeta = zeta * zeta % q

-- x^k - 1 modulo q
abbrev pub power_less_one : ℕ → ℕ → ℕ → ℕ
power_less_one q x k = (x ^ k % q + (q - 1)) % q

-- q is odd, at least 3 and below 2^62, and both roots are below q
abbrev pub is_size : ModRow → Bool
is_size r = r.q % 2 == 1 && nat_le 3 r.q && nat_lt r.q (2 ^ 62) && nat_lt r.zeta r.q && nat_lt r.psi r.q

abbrev pub is_residue : ℕ → ModRow → Bool
is_residue m r = r.q % m == 1

-- zeta^(2m) is 1 modulo q
abbrev pub is_half_root : ℕ → ℕ → ℕ → Bool
is_half_root m q zeta = zeta ^ (2 * m) % q == 1

-- k does not divide m, or omega^k - 1 and q have no common divisor above 1
abbrev pub is_root_at : ℕ → ℕ → ℕ → ℕ → Bool
is_root_at m q zeta k = not (is_divisor k m) || is_unit q (power_less_one q (omega_of q zeta) k)

-- for no divisor k of m below m have omega^k - 1 and q a common divisor above 1
unfoldable pub is_root : ℕ → ℕ → ℕ → Bool
is_root m q zeta = all_below m (is_root_at m q zeta)

-- psi^(N/2) is -1 modulo q, for the least power N of two that is at least 2m - 1
abbrev pub is_two_root : ℕ → ℕ → ℕ → Bool
is_two_root m q psi = psi ^ (two_power m / 2) % q == q - 1

-- e is below q and the inverse of k modulo q
abbrev pub is_inverse : ℕ → ℕ → ℕ → Bool
is_inverse q k e = nat_lt e q && k * e % q == 1

-- the first check that row i fails
unfoldable pub row_fault : ℕ → ℕ → ModRow → Option ModFault
row_fault m i r =
    if not (is_size r) then Some (Size i)
    else if not (is_residue m r) then Some (Residue i)
    else if not (is_half_root m r.q r.zeta) then Some (HalfRoot i)
    else if not (is_root m r.q r.zeta) then Some (Root i)
    else if not (is_two_root m r.q r.psi) then Some (TwoRoot i)
    else None

module _ (c : Chain) where
  abbrev pub row_fault_at : ℕ → Option ModFault
  row_fault_at i = row_fault c.m i (row_at c i)

  abbrev pub inverse_fault : ℕ → ℕ → Option ModFault
  inverse_fault j i = if is_inverse (modulus_at c j) (modulus_at c i) (entry_at c i j) then None else Some (Inverse i j)

  abbrev pub plain_fault : ℕ → Option ModFault
  plain_fault i = if is_inverse c.p (modulus_at c i) (row_at c i).plain_inverse then None else Some (PlainInverse i)

  -- the first row that fails, with its first check that fails
  unfoldable pub first_row_fault : Option ModFault
  first_row_fault = first_below (count c) row_fault_at

  -- the first wrong inverse of one modulus modulo a later one, by the later one and then by the earlier one
  unfoldable pub first_inverse_fault : Option ModFault
  first_inverse_fault = first_below (count c) (λ j. first_below j (inverse_fault j))

  -- the first wrong inverse modulo p
  unfoldable pub first_plain_fault : Option ModFault
  first_plain_fault = first_below (count c) plain_fault

  -- the first check that fails
  unfoldable pub first_fault : Option ModFault
  first_fault = option_or first_row_fault (option_or first_inverse_fault first_plain_fault)
