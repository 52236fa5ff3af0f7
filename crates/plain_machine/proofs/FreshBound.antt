-- The bound of a fresh ciphertext can be spelled in a file.
use Rattle.std.proofs.Common.{◌≡◌, ℕ, zero, suc, ◌+◌, ◌*◌, ◌/◌, ◌^◌, ◌<◌, ◌≤◌, Bool, true, false, cond, refl, arith, lit<, ap, ◌∙◌, le_refl}
use Rattle.std.proofs.Math.Nat.{mul-le-mul, div-le_self, le_trans}
use Rattle.algebra.specs.Range.{total, counts}
use Rattle.algebra.specs.Divisor.{is_unit}
use Rattle.cyclotomic.specs.Cyclotomic.{degree}
use Rattle.cyclotomic.specs.CyclotomicLaws.{DegreeIsUnits}
use Rattle.noise_bound.specs.Machine.{fresh}
use Rattle.noise_bound.specs.Form.{bound_of}
use Rattle.noise_bound.specs.Rounding.{IsUp, exponent, up}
use Rattle.noise_bound.specs.Value.{value}
use Rattle.noise_bound.specs.declared.rounding.Bound.{Bound}
use Rattle.residue_rows.specs.Kept.{RingSetting, IsSetting}
use Rattle.scheme_laws.specs.Scheme.{sizes_of}
use Rattle.he_files.specs.FileLaws.{IsSpelledBound}
use Rattle.plain_machine.specs.Lower.{BoundLaws}

-- a bound of at most 65 binary digits
rounded_spelled : BoundLaws → (x : ℕ) → x ≤ 2 ^ 64 → IsSpelledBound (up x)
rounded_spelled laws x small = record { floating = rounded.floating; small = omega (arith, exponent_is, laws.ordered its most most_above) }
  where
    rounded : IsUp x (up x)
    rounded = laws.rounds_up x

    -- the bound of the number
    its : Bound
    its = bound_of (up x)

    is_value : value its ≡ up x
    is_value = laws.number (up x) ∙ laws.down_keeps (up x) rounded.floating

    exponent_is : its.exp ≡ exponent (up x)
    exponent_is = laws.exp its ∙ ap exponent is_value

    -- 2^64
    most : Bound
    most = record { man = 2 ^ 31; exp = 33; fits = lit< tt; normal = λ some. le_refl (2 ^ 31) }

    most_above : value its ≤ value most
    most_above = omega (arith, is_value, rounded.least (2 ^ 64) (record { man = 1; exp = 64; fits = lit< tt; is = refl }) small)

-- the sum that is rounded
sum_small : (n p w : ℕ) → n ≤ 65536 → p ≤ 131071 → w ≤ 65536 → n * (p / 2) + p * (10 * n * n + 10 * n + 10 * n * w) ≤ 2 ^ 64
sum_small n p w n_most p_most w_most =
    let first : n * (p / 2) ≤ 65536 * 131071 = mul-le-mul n_most (le_trans (div-le_self p 2) p_most) in
    let tens : 10 * n ≤ 655360 = omega arith in
    let squares : 10 * n * n ≤ 655360 * 65536 = mul-le-mul tens n_most in
    let products : 10 * n * w ≤ 655360 * 65536 = mul-le-mul tens w_most in
    let inner : 10 * n * n + 10 * n + 10 * n * w ≤ 2 ^ 37 = omega arith in
    let second : p * (10 * n * n + 10 * n + 10 * n * w) ≤ 131071 * 2 ^ 37 = mul-le-mul p_most inner in
    omega arith

-- the degree is at most m
units_le : (m n : ℕ) → total counts n (λ t. cond (is_unit m (suc t)) 1 0) ≤ n
units_le m zero = omega arith
units_le m (suc n) = omega (arith, units_le m n, one (is_unit m (suc n)))
  where
    one : (b : Bool) → cond b 1 0 ≤ 1
    one true = omega arith
    one false = omega arith

-- the degree of a ring is at most 65536
pub degree_small : DegreeIsUnits → (r : RingSetting) → IsSetting r → degree r.moduli.m ≤ 65536
degree_small degrees r S = omega (arith, degrees r.moduli.m m_some, units_le r.moduli.m r.moduli.m, S.accepted.shaped.m_high)
  where
    m_some : 0 < r.moduli.m
    m_some = omega (arith, S.accepted.shaped.m_low)

pub fresh_spelled : DegreeIsUnits → BoundLaws → (r : RingSetting) → IsSetting r → IsSpelledBound (fresh (sizes_of r))
unfolding fresh
fresh_spelled degrees laws r S = rounded_spelled laws _ (sum_small (degree r.moduli.m) r.moduli.p r.weight n_most S.accepted.shaped.p_high (le_trans S.weight_most n_most))
  where
    n_most : degree r.moduli.m ≤ 65536
    n_most = degree_small degrees r S
