-- The least power of two that is at least 2m - 1.
use Rattle.std.proofs.Common.{◌≡◌, ℕ, zero, suc, ◌-◌, ◌*◌, ◌/◌, ◌^◌, ◌<◌, ◌≤◌, inl, inr, ap, sym, ◌∙◌, subst, arith}
use Rattle.std.specs.Prelude.{nat_le, unwrap_or}
use Rattle.std.specs.Int.{IsNextPowerOfTwo}
use Rattle.std.proofs.Math.Nat.{pow-suc, pow-zero, pow-le-pow_right}
use Rattle.std.proofs.lemmas.Bool.{le-leb, lt-leb, cases_lt}
use Rattle.moduli_table.specs.Checks.{two_power}
use Rattle.moduli_table.proofs.Firsts.{least_is}

below_power : (k : ℕ) → k < 2 ^ k
below_power zero = omega (arith, pow-zero 2)
below_power (suc k) = omega (arith, pow-suc 2 k, below_power k)

-- a smaller exponent gives at most half
halves : (y k n : ℕ) → y < k → n ≡ 2 ^ k → 2 ^ y ≤ n / 2
halves y k n l e = omega (arith, e, pow-suc 2 y, pow-le-pow_right {n = 2} (omega arith) l)

exponent_in : (m k n : ℕ) → 1 ≤ m → n ≡ 2 ^ k → n / 2 < 2 * m - 1 → k < 2 * m
exponent_in m zero n p e h = omega arith
exponent_in m (suc k) n p e h = omega (arith, below_power k, halves k (suc k) n (omega arith) e)

pub only_two_power : (m n : ℕ) → 1 ≤ m → IsNextPowerOfTwo (2 * m - 1) n → n ≡ two_power m
unfolding two_power
only_two_power m n p h = h.0.1 ∙ ap (λ o. 2 ^ unwrap_or o 0) (sym (least_is (λ e. nat_le (2 * m - 1) (2 ^ e)) (2 * m) h.0.0 (exponent_in m h.0.0 n p h.0.1 below) (le-leb (2 * m - 1) (2 ^ h.0.0) (omega (arith, h.0.1, h.1))) (λ y l. lt-leb (2 * m - 1) (2 ^ y) (omega (arith, halves y h.0.0 n l h.0.1, below)))))
  where
    below : n / 2 < 2 * m - 1
    below = omega (arith, h.2)

next_power : (n : ℕ) → (p : ℕ) × IsNextPowerOfTwo (suc n) p
next_power zero = (1, ((0, sym (pow-zero 2)), omega arith, omega arith))
next_power (suc n) = go (next_power n)
  where
    go : (p : ℕ) × IsNextPowerOfTwo (suc n) p → (p : ℕ) × IsNextPowerOfTwo (suc (suc n)) p
    go (p, h) = elim (cases_lt (suc n) p) [
      | inl l ↦ (p, (h.0, l, omega (arith, h.2)))
      | inr l ↦ (p * 2, ((suc h.0.0, ap (λ z. z * 2) h.0.1 ∙ sym (pow-suc 2 h.0.0)), omega (arith, h.1), omega (arith, h.1)))
    ]

pub two_power_next : (m : ℕ) → 1 ≤ m → IsNextPowerOfTwo (2 * m - 1) (two_power m)
two_power_next m p = subst (IsNextPowerOfTwo (2 * m - 1)) (only_two_power m at.0 p at.1) at.1
  where
    at : (p : ℕ) × IsNextPowerOfTwo (2 * m - 1) p
    at = subst (λ n. (p : ℕ) × IsNextPowerOfTwo n p) (let e : suc (2 * m - 2) ≡ 2 * m - 1 = omega arith in e) (next_power (2 * m - 2))
