-- The values of polynomials modulo q at the powers of a root of unity whose exponents are the units modulo m, and the polynomial
-- that has given values there.
use Rattle.std.specs.Prelude.{◌≡◌, ℕ, ◌-◌, ◌*◌, ◌/◌, ◌%◌, ◌<◌, All, List, map, length, get_or}
use Rattle.algebra.specs.Ring.{residues}
use Rattle.algebra.specs.Range.{total, adds}
use Rattle.algebra.specs.Power.{power}
use Rattle.algebra.specs.Poly.{value_at, remainder}
use Rattle.algebra.specs.Divisor.{units}
use Rattle.algebra.specs.Whole.{below}
use Rattle.cyclotomic.specs.Cyclotomic.{degree}
use Rattle.residue_rows.specs.Rows.{phi_modulo}

-- a modulus with a root of unity omega, of the table's index m
pub record Root : Type 0 where
  pub q : ℕ
  pub omega : ℕ

-- the value at omega^j
abbrev pub value_of : Root → ℕ → List ℕ → ℕ
value_of r j a = value_at (residues r.q) (power (residues r.q) r.omega j) a

-- the values at omega^j, j through the units in ascending order
unfoldable pub values_of : ℕ → Root → List ℕ → List ℕ
values_of m r a = map (λ j. value_of r j a) (units m)

-- n residues
abbrev pub IsRow : ℕ → ℕ → List ℕ → Type 0
IsRow m q a = (length a ≡ degree m) × All (λ c. c < q) a

-- the inverse of m, since q is 1 modulo m
abbrev pub share : ℕ → ℕ → ℕ
share m q = q - (q - 1) / m

-- 1/m times the sum over the units j of v_j * omega^(-i j), where omega^(-1) is omega^(m - 1)
abbrev pub mean : ℕ → Root → List ℕ → ℕ → ℕ
mean m r v i = (share m r.q * total (adds (residues r.q)) (length (units m)) (λ u. get_or v u 0 * power (residues r.q) r.omega ((m - 1) * (i * get_or (units m) u 0)) % r.q)) % r.q

-- the polynomial with the values v: these sums for i below m, reduced by Phi_m
unfoldable pub interpolated : ℕ → Root → List ℕ → List ℕ
interpolated m r v = remainder (residues r.q) (phi_modulo m r.q) (map (mean m r v) (below m))
