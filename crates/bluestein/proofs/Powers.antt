-- The steps of the loop over square exponents, and sizes.
use Rattle.std.proofs.Common.{◌≡◌, ℕ, zero, suc, ◌+◌, ◌-◌, ◌*◌, ◌/◌, ◌%◌, ◌^◌, ◌<◌, ◌≤◌, ◌⊎◌, sym, ◌∙◌, ap, ap₂, subst, arith, inl, inr, mod-eq_of_lt}
use Rattle.std.proofs.Math.Nat.{pow-zero, pow-succ', mod_self, add-mul-mod_self_left}
use Rattle.std.proofs.Math.Pow.{pow_mono}
use Rattle.std.proofs.lemmas.Nat.{mul-mod_first, mul-mod_second, pow-mod, mul-pow, pow-add, leading_length, le-div}
use Rattle.std.proofs.lemmas.Bool.{cases_order, cases_lt, cases_eq}
use lib.Count.{count_leading_zeros}
use Rattle.two_power.proofs.Rows.{half_is}
use Rattle.bluestein.specs.Plan.{IsLeastPower}

pub power_more : (q s b i p t : ℕ) → p ≡ (s * b ^ (i * i)) % q → t ≡ b ^ (2 * i + 1) % q → (p * t) % q ≡ (s * b ^ ((i + 1) * (i + 1))) % q
power_more q s b i p t e f = ap₂ (λ y z. (y * z) % q) e f ∙ mul-mod_first (s * b ^ (i * i)) (b ^ (2 * i + 1) % q) q ∙ mul-mod_second (s * b ^ (i * i)) (b ^ (2 * i + 1)) q ∙ ap (λ z. z % q) (turn s (b ^ (i * i)) (b ^ (2 * i + 1)) ∙ ap (λ z. s * z) (sym (pow-add b (i * i) (2 * i + 1)) ∙ ap (λ z. b ^ z) (next i)))
  where
    turn : (a b c : ℕ) → a * b * c ≡ a * (b * c)
    turn a b c = omega arith

    next : (i : ℕ) → i * i + (2 * i + 1) ≡ (i + 1) * (i + 1)
    next i = omega arith

pub step_more : (q b i t s : ℕ) → t ≡ b ^ (2 * i + 1) % q → s ≡ (b * b) % q → (t * s) % q ≡ b ^ (2 * (i + 1) + 1) % q
step_more q b i t s e f = ap₂ (λ y z. (y * z) % q) e f ∙ mul-mod_first (b ^ (2 * i + 1)) ((b * b) % q) q ∙ mul-mod_second (b ^ (2 * i + 1)) (b * b) q ∙ ap (λ z. z % q) (turn (b ^ (2 * i + 1)) b ∙ ap (λ z. b * z) (sym (pow-succ' b (2 * i + 1))) ∙ sym (pow-succ' b (suc (2 * i + 1))) ∙ ap (λ z. b ^ z) (next i))
  where
    turn : (a b : ℕ) → a * (b * b) ≡ b * (b * a)
    turn a b = omega arith

    next : (i : ℕ) → suc (suc (2 * i + 1)) ≡ 2 * (i + 1) + 1
    next i = omega arith

pub first_power : (b : ℕ) → b ^ (2 * 0 + 1) ≡ b
first_power b = pow-succ' b 0 ∙ rw (pow-zero b) (omega arith)

pub zero_power : (s b : ℕ) → s * b ^ (0 * 0) ≡ s
zero_power s b = rw (pow-zero b) (omega arith)

-- the least power of two is one number
pub least_same : (low n k : ℕ) → IsLeastPower low n → IsLeastPower low k → n ≡ k
least_same low n k N K = elim (cases_order N.exponent K.exponent) [
  | inl e ↦ N.is_power ∙ ap (λ z. 2 ^ z) e ∙ sym K.is_power
  | inr (inl l) ↦ absurd (above N.exponent K.exponent n k l N.is_power K.is_power N.enough K.least)
  | inr (inr l) ↦ absurd (above K.exponent N.exponent k n l K.is_power N.is_power K.enough N.least)
]
  where
    above : (a b n k : ℕ) → a < b → n ≡ 2 ^ a → k ≡ 2 ^ b → low ≤ n → k < 2 * low → ⊥
    above a b n k l e f g h = let m : 2 ^ suc a ≤ 2 ^ b = pow_mono l in omega (arith, pow-succ' 2 a, m)

-- the inverse of a power of two modulo an odd number
pub half_power : (q levels s : ℕ) → 1 < q → q % 2 ≡ 1 → s ≡ ((q + 1) / 2) ^ levels % q → (s * 2 ^ levels) % q ≡ 1
half_power q levels s big odd e = ap (λ z. (z * 2 ^ levels) % q) e ∙ mul-mod_first (((q + 1) / 2) ^ levels) (2 ^ levels) q ∙ ap (λ z. z % q) (sym (mul-pow ((q + 1) / 2) 2 levels) ∙ ap (λ z. z ^ levels) twice) ∙ sym (pow-mod (1 + q * 1) levels q) ∙ ap (λ z. z ^ levels % q) (add-mul-mod_self_left 1 q 1 ∙ mod-eq_of_lt big) ∙ ap (λ z. z % q) (ones levels) ∙ mod-eq_of_lt big
  where
    twice : (q + 1) / 2 * 2 ≡ 1 + q * 1
    twice = omega arith

    ones : (n : ℕ) → 1 ^ n ≡ 1
    ones zero = pow-zero 1
    ones (suc n) = pow-succ' 1 n ∙ ap (λ z. 1 * z) (ones n)

-- both scales together
pub scaled_share : (q s p r t : ℕ) → 1 < q → (s * p) % q ≡ 1 → r < q → t ≡ (s * r) % q → (t * p) % q ≡ r
scaled_share q s p r t big e l f = ap (λ z. (z * p) % q) f ∙ mul-mod_first (s * r) p q ∙ ap (λ z. z % q) (turn s r p) ∙ sym (mul-mod_first (s * p) r q) ∙ ap (λ z. (z * r) % q) e ∙ ap (λ z. z % q) (single r) ∙ mod-eq_of_lt l
  where
    turn : (a b c : ℕ) → a * b * c ≡ a * c * b
    turn a b c = omega arith

    single : (a : ℕ) → 1 * a ≡ a
    single a = omega arith

-- the inverse of a root of order 2m
pub inverse_root : (q z m v : ℕ) → 0 < m → z ^ (2 * m) % q ≡ 1 → v ≡ z ^ (2 * m - 1) % q → (z * v) % q ≡ 1
inverse_root q z m v on e f = ap (λ a. (z * a) % q) f ∙ mul-mod_second z (z ^ (2 * m - 1)) q ∙ ap (λ a. a % q) (sym (pow-succ' z (2 * m - 1)) ∙ ap (λ a. z ^ a) whole) ∙ e
  where
    whole : suc (2 * m - 1) ≡ 2 * m
    whole = omega arith

-- the number of digits of 2m - 2
pub digits : (m : ℕ) → 3 ≤ m → m ≤ 65536 → (t : ℕ) × (count_leading_zeros 32 (2 * m - 2) + t ≡ 32) × (2 * m - 1 ≤ 2 ^ t) × (2 ^ t < 2 * (2 * m - 1)) × (1 ≤ t) × (t ≤ 17)
digits m low high = go (leading_length 32 (2 * m - 2) (omega arith))
  where
    go : (t : ℕ) × (count_leading_zeros 32 (2 * m - 2) + t ≡ 32) × (2 * m - 2 < 2 ^ t) × (2 ^ t ≤ 2 * (2 * m - 2) + 1) → (t : ℕ) × (count_leading_zeros 32 (2 * m - 2) + t ≡ 32) × (2 * m - 1 ≤ 2 ^ t) × (2 ^ t < 2 * (2 * m - 1)) × (1 ≤ t) × (t ≤ 17)
    go (t, e, l, n) = (t, e, omega arith, omega arith, some (cases_lt t 1), few (cases_lt 17 t))
      where
        some : (t < 1) ⊎ (1 ≤ t) → 1 ≤ t
        some (inl k) = let z : t ≡ 0 = omega arith in let one : 2 ^ t ≡ 1 = ap (λ z. 2 ^ z) z in absurd (omega arith)
        some (inr k) = k

        few : (17 < t) ⊎ (t ≤ 17) → t ≤ 17
        few (inl k) = let big : 2 ^ 18 ≤ 2 ^ t = pow_mono k in absurd (omega arith)
        few (inr k) = k

pub digits_size : (m r : ℕ) → 3 ≤ m → m ≤ 65536 → r ≡ 32 - count_leading_zeros 32 (2 * m - 2) → IsLeastPower (2 * m - 1) (2 ^ r)
digits_size m r low high e = go (digits m low high)
  where
    go : (t : ℕ) × (count_leading_zeros 32 (2 * m - 2) + t ≡ 32) × (2 * m - 1 ≤ 2 ^ t) × (2 ^ t < 2 * (2 * m - 1)) × (1 ≤ t) × (t ≤ 17) → IsLeastPower (2 * m - 1) (2 ^ r)
    go (t, f, enough, least, some, few) = let same : t ≡ r = omega arith in subst (λ z. IsLeastPower (2 * m - 1) (2 ^ z)) same (record { exponent = t; is_power = λ _. 2 ^ t; enough = enough; least = least })

pub digits_high : (m r : ℕ) → 3 ≤ m → m ≤ 65536 → r ≡ 32 - count_leading_zeros 32 (2 * m - 2) → r ≤ 17
digits_high m r low high e = go (digits m low high)
  where
    go : (t : ℕ) × (count_leading_zeros 32 (2 * m - 2) + t ≡ 32) × (2 * m - 1 ≤ 2 ^ t) × (2 ^ t < 2 * (2 * m - 1)) × (1 ≤ t) × (t ≤ 17) → r ≤ 17
    go (t, f, enough, least, some, few) = omega arith

-- a power of two and twice a length, both the least
pub size_same : (m n h levels : ℕ) → m ≡ n → IsLeastPower (2 * m - 1) (2 ^ levels) → IsLeastPower (2 * n - 1) (2 * h) → 2 ^ levels ≡ 2 * h
size_same m n h levels e M N = least_same (2 * n - 1) (2 ^ levels) (2 * h) (subst (λ z. IsLeastPower (2 * z - 1) (2 ^ levels)) e M) N

pub half_of : (levels h : ℕ) → 2 ^ levels ≡ 2 * h → h ≡ 2 ^ (levels - 1)
half_of zero h e = absurd (omega arith)
half_of (suc k) h e = half (2 ^ k) (sym (pow-succ' 2 k) ∙ e) ∙ ap (λ z. 2 ^ z) (back k)
  where
    half : (p : ℕ) → 2 * p ≡ 2 * h → h ≡ p
    half p e = omega arith

    back : (k : ℕ) → k ≡ suc k - 1
    back k = omega arith

pub psi_half_power : (q psi low size levels : ℕ) → 1 ≤ levels → IsLeastPower low size → IsLeastPower low (2 ^ levels) → psi ^ (size / 2) % q ≡ q - 1 → psi ^ (2 ^ (levels - 1)) % q ≡ q - 1
psi_half_power q psi low size levels some S L e = subst (λ z. psi ^ z % q ≡ q - 1) (half_is levels size some (least_same low size (2 ^ levels) S L)) e

-- the inverse of m is a residue
pub share_in : (q m : ℕ) → 3 ≤ m → 3 ≤ q → q % m ≡ 1 → q - (q - 1) / m < q
share_in q m some above e = let high : m < q = bound (cases_lt m q) in let low : 1 ≤ (q - 1) / m = le-div 1 (q - 1) m (omega arith) (omega arith) in omega arith
  where
    bound : (m < q) ⊎ (q ≤ m) → m < q
    bound (inl l) = l
    bound (inr l) = elim (cases_eq q m) [
      | inl f ↦ let a : q % m ≡ 0 = ap (λ z. z % m) f ∙ mod_self m in absurd (omega arith)
      | inr f ↦ let g : q < m = omega arith in let a : q % m ≡ q = mod-eq_of_lt g in absurd (omega arith)
    ]
