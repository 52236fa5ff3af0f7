-- The calls of a bound, on plain numbers: man * 2^exp is a, and likewise for b.
use Rattle.std.proofs.Common.{lit<, lit≤, ◌≡◌, ℕ, suc, ◌+◌, ◌-◌, ◌*◌, ◌/◌, ◌%◌, ◌^◌, ◌<◌, ◌≤◌, inl, inr, refl, sym, ap, ◌∙◌, arith, min, max}
use Rattle.std.proofs.Math.Nat.{pow-suc, mul-le-mul, mul-le-mul_right, mul-le-mul_left, mul-lt-mul_of_pos_right, le_of_mul-le-mul_right, le_antisymm, mod-eq_of_lt, mul-mul-mul_comm, mul-pos, pow-le-pow_right, mul_assoc, mul_comm, lt_of_lt_of_le, mul-div_cancel}
use Rattle.std.proofs.lemmas.Nat.{pow_pos, pow-add, pow_below, mul-lt}
use Rattle.std.specs.Int.{div_ceil}
use Rattle.noise_bound.specs.Rounding.{up, down, exponent, mantissa}
use Rattle.noise_bound.proofs.RoundingLaws.{IsExponent, exponent_is, div_ceil_le, le-div_ceil, le_or_above, up-leading, up-quotient, down-quotient, up-floating, up-le, down-le, IsFloating-small}

-- ---- one form

pub exponent_unique : (x e : ℕ) → IsExponent x e → e ≡ exponent x
exponent_unique x e a =
    let b = exponent_is x in
    le_antisymm (no_more e (exponent x) a b) (no_more (exponent x) e b a)
  where
    no_more : (i j : ℕ) → IsExponent x i → IsExponent x j → i ≤ j
    no_more i j p q = elim (le_or_above i j) [
      | inl small ↦ small
      | inr large ↦
          let power : 2 ^ suc j ≤ 2 ^ i = pow-le-pow_right (lit< tt) large in
          let long : 2 ^ 31 * 2 ^ i ≤ x = p.full (omega arith) in
          absurd (omega (arith, q.fits, long, power, pow-suc 2 j))
    ]

pub exponent_of_form : (man exp : ℕ) → man < 2 ^ 32 → (0 < exp → 2 ^ 31 ≤ man) → exp ≡ exponent (man * 2 ^ exp)
exponent_of_form man exp fits normal = exponent_unique (man * 2 ^ exp) exp (record {
  fits = mul-lt-mul_of_pos_right fits (pow_pos exp);
  full = λ some. mul-le-mul_right (2 ^ exp) (normal some);
})

pub mantissa_of_form : (man exp : ℕ) → man < 2 ^ 32 → (0 < exp → 2 ^ 31 ≤ man) → man ≡ mantissa (man * 2 ^ exp)
mantissa_of_form man exp fits normal =
    sym (mul-div_cancel man (pow_pos exp)) ∙ ap (λ e. man * 2 ^ exp / 2 ^ e) (exponent_of_form man exp fits normal)

-- ---- the order

-- a higher power of two is a larger number
pub above_by_power : (am ae bm be : ℕ) → bm < 2 ^ 32 → (0 < ae → 2 ^ 31 ≤ am) → be < ae → bm * 2 ^ be < am * 2 ^ ae
above_by_power am ae bm be fits normal higher =
    let power : 2 ^ suc be ≤ 2 ^ ae = pow-le-pow_right (lit< tt) higher in
    let long : 2 ^ 31 * 2 ^ ae ≤ am * 2 ^ ae = mul-le-mul_right (2 ^ ae) (normal (omega arith)) in
    omega (arith, mul-lt-mul_of_pos_right fits (pow_pos be), power, long, pow-suc 2 be)

pub order_by_man : (am ae bm be : ℕ) → ae ≡ be → bm ≤ am → bm * 2 ^ be ≤ am * 2 ^ ae
order_by_man am ae bm be same h = rw same (mul-le-mul_right (2 ^ be) h)

pub man_by_order : (am ae bm be : ℕ) → ae ≡ be → bm * 2 ^ be ≤ am * 2 ^ ae → bm ≤ am
man_by_order am ae bm be same h = le_of_mul-le-mul_right (rw same at h) (pow_pos be)

-- ---- the sum

-- the least c with x <= c * d, by its two properties
div_ceil_at : (x d c : ℕ) → 0 < d → x ≤ c * d → ((k : ℕ) → x ≤ k * d → c ≤ k) → div_ceil x d ≡ c
div_ceil_at x d c pos enough least =
    le_antisymm (div_ceil_le x d c pos enough) (least (div_ceil x d) (le-div_ceil x d pos))

below_by_product : (h k d r : ℕ) → 0 < d → 0 < r → h * d + r ≤ k * d → h < k
below_by_product h k d r pos some fits = elim (le_or_above k h) [
  | inl small ↦ absurd (omega (arith, fits, some, mul-le-mul_right d small))
  | inr large ↦ large
]

-- of a number below the unit d it counts only whether it is there
pub div_ceil-sum : (h r d : ℕ) → 0 < d → r ≤ d → div_ceil (h * d + r) d ≡ h + min r 1
div_ceil-sum h r d pos small =
    elim (le_or_above r 0) [
      | inl none ↦
          let one : min r 1 ≡ 0 = omega arith in
          rw one (div_ceil_at (h * d + r) d (h + 0) pos (omega arith)
          (λ k fits. omega (arith, le_of_mul-le-mul_right {m = h} {n = k} {k = d} (omega (arith, fits)) pos)))
      | inr some ↦
          let one : min r 1 ≡ 1 = omega arith in
          rw one (div_ceil_at (h * d + r) d (h + 1) pos (omega arith)
          (λ k fits. omega (arith, below_by_product h k d r pos some fits)))
    ]

there_by_power : (m k : ℕ) → 0 < k → min m 1 ≡ min (m * k) 1
there_by_power m k pos = elim (le_or_above m 0) [
  | inl none ↦ let m0 : m ≡ 0 = omega arith in rw m0 (omega arith)
  | inr some ↦ omega (arith, mul-pos some pos)
]

-- the exponents are near
pub sum_near : (hm he lm le gap : ℕ) → gap ≡ he - le → le ≤ he → gap < 64 → hm < 2 ^ 32
    → (hm * 2 ^ gap % 2 ^ 128 + lm) * 2 ^ le ≡ hm * 2 ^ he + lm * 2 ^ le
sum_near hm he lm le gap is ordered near fits =
    let power : 2 ^ gap < 2 ^ 64 = pow_below gap 64 near in
    let room : hm * 2 ^ gap < 2 ^ 128 = lt_of_lt_of_le (mul-lt hm (2 ^ gap) (2 ^ 32) (2 ^ 64) fits power) (lit≤ tt) in
    let whole : gap + le ≡ he = omega (arith, is) in
    let parts : hm * 2 ^ gap * 2 ^ le ≡ hm * 2 ^ he = mul_assoc hm (2 ^ gap) (2 ^ le) ∙ ap (λ z. hm * z) (sym (pow-add 2 gap le)) ∙ ap (λ e. hm * 2 ^ e) whole in
    ap (λ z. (z + lm) * 2 ^ le) (mod-eq_of_lt room) ∙ omega (arith, parts)

-- they are far from each other
pub sum_far : (hm he lm le gap : ℕ) → gap ≡ he - le → le ≤ he → 64 ≤ gap → lm < 2 ^ 32 → (0 < he → 2 ^ 31 ≤ hm)
    → up ((hm + min lm 1) * 2 ^ he) ≡ up (hm * 2 ^ he + lm * 2 ^ le)
sum_far hm he lm le gap is ordered far fits normal =
    let r = lm * 2 ^ le in
    let power : 2 ^ (32 + le) ≤ 2 ^ he = pow-le-pow_right (lit< tt) (omega (arith, is)) in
    let small : r ≤ 2 ^ he = omega (arith, mul-lt-mul_of_pos_right fits (pow_pos le), power, pow-add 2 32 le) in
    let high : 2 ^ 31 * 2 ^ he ≤ hm * 2 ^ he = mul-le-mul_right (2 ^ he) (normal (omega (arith, is))) in
    let long : 2 ^ 31 * 2 ^ he ≤ hm * 2 ^ he + r = omega (arith, high) in
    let there : min lm 1 ≡ min r 1 = there_by_power lm (2 ^ le) (pow_pos le) in
    ap (λ z. up ((hm + z) * 2 ^ he)) there
    ∙ sym (ap (λ z. up (z * 2 ^ he)) (div_ceil-sum hm r (2 ^ he) (pow_pos he) small))
    ∙ sym (up-leading (hm * 2 ^ he + r) he long)

-- ---- quotients

pub quotient_up_is : (m e n s d : ℕ) → m * 2 ^ s ≡ n * 2 ^ e → (0 < s → 2 ^ 127 ≤ m) → 0 < d → d < 2 ^ 64
    → up (div_ceil m d * 2 ^ s) ≡ up (div_ceil (n * 2 ^ e) d)
quotient_up_is m e n s d same long pos fits =
    sym (up-quotient m s d pos (λ some. omega (arith, long some))) ∙ ap (λ z. up (div_ceil z d)) same

pub half_over_is : (m e n s h : ℕ) → m * 2 ^ s ≡ n * 2 ^ e → (0 < s → 2 ^ 127 ≤ m) → 0 < h → h < 2 ^ 32
    → down (m / (2 * h) * 2 ^ s) ≡ down (n * 2 ^ e / (2 * h))
half_over_is m e n s h same long pos fits =
    sym (down-quotient m s (2 * h) (omega arith) (λ some. omega (arith, long some))) ∙ ap (λ z. down (z / (2 * h))) same

pub factor_pos : (m k : ℕ) → 0 < m * k → 0 < m
factor_pos m k pos = elim (le_or_above m 0) [
  | inl none ↦ let m0 : m ≡ 0 = omega arith in absurd (omega (arith, pos, ap (λ z. z * k) m0))
  | inr some ↦ some
]

-- a power of two of the numerator is taken off both
pub ratio_near : (am ae bm be : ℕ) → be ≤ ae → 0 < bm
    → up (div_ceil (am * 2 ^ (ae - be)) bm) ≡ up (div_ceil (am * 2 ^ ae) (bm * 2 ^ be))
ratio_near am ae bm be ordered pos =
    let n = am * 2 ^ (ae - be) in
    let whole : ae - be + be ≡ ae = omega arith in
    let parts : n * 2 ^ be ≡ am * 2 ^ ae = mul_assoc am (2 ^ (ae - be)) (2 ^ be) ∙ ap (λ z. am * z) (sym (pow-add 2 (ae - be) be)) ∙ ap (λ e. am * 2 ^ e) whole in
    let q = div_ceil n bm in
    let enough : n * 2 ^ be ≤ q * (bm * 2 ^ be) = omega (arith, mul-le-mul_right (2 ^ be) (le-div_ceil n bm pos)) in
    ap up (sym (div_ceil_at (am * 2 ^ ae) (bm * 2 ^ be) q (mul-pos pos (pow_pos be))
    (omega (arith, parts, enough))
    (λ k fits. div_ceil_le n bm k pos (le_of_mul-le-mul_right {m = n} {n = k * bm} {k = 2 ^ be} (omega (arith, parts, fits)) (pow_pos be)))))

-- the divisor is larger
pub ratio_far : (am ae bm be : ℕ) → ae < be → am < 2 ^ 32 → (0 < be → 2 ^ 31 ≤ bm)
    → min am 1 ≡ up (div_ceil (am * 2 ^ ae) (bm * 2 ^ be))
ratio_far am ae bm be ordered fits normal =
    let a = am * 2 ^ ae in
    let b = bm * 2 ^ be in
    let larger : a < b = above_by_power bm be am ae fits normal ordered in
    let pos : 0 < b = omega (arith, larger) in
    let under : a ≤ b = omega (arith, larger) in
    let start : a ≡ 0 * b + a = omega arith in
    let one : div_ceil a b ≡ min am 1 =
    ap (λ z. div_ceil z b) start ∙ div_ceil-sum 0 a b pos under ∙ omega (arith, there_by_power am (2 ^ ae) (pow_pos ae)) in
    let least : up (min am 1) ≡ min am 1 = up-floating (min am 1) (IsFloating-small (min am 1) (omega arith)) in
    sym least ∙ sym (ap up one)

-- ---- how large an exponent is

-- the mantissa of an exponent above 0 is full, so a larger exponent is a larger number
pub exp_le : (man exp k : ℕ) → (0 < exp → 2 ^ 31 ≤ man) → man * 2 ^ exp < 2 ^ 32 * 2 ^ k → exp ≤ k
exp_le man exp k normal h =
    elim (le_or_above exp k) [
      | inl small ↦ small
      | inr large ↦
          let power : 2 ^ suc k ≤ 2 ^ exp = pow-le-pow_right (lit< tt) large in
          let full : 2 ^ 31 * 2 ^ exp ≤ man * 2 ^ exp = mul-le-mul_right (2 ^ exp) (normal (omega arith)) in
          absurd (omega (arith, power, full, h, pow-suc 2 k))
    ]

pub exp_of_up : (man exp k x : ℕ) → (0 < exp → 2 ^ 31 ≤ man) → man * 2 ^ exp ≡ up x → x ≤ 4294967295 * 2 ^ k → exp ≤ k
exp_of_up man exp k x normal is h =
    let most : up x ≤ 4294967295 * 2 ^ k = up-le x (4294967295 * 2 ^ k) (record { man = 4294967295; exp = k; fits = lit< tt; is = refl }) h in
    exp_le man exp k normal (omega (arith, is, most, pow_pos k))

pub exp_of_down : (man exp k x : ℕ) → (0 < exp → 2 ^ 31 ≤ man) → man * 2 ^ exp ≡ down x → x < 2 ^ 32 * 2 ^ k → exp ≤ k
exp_of_down man exp k x normal is h = exp_le man exp k normal (omega (arith, is, down-le x, h))

pub number_le : (a e : ℕ) → a < 2 ^ 32 → a * 2 ^ e ≤ 4294967295 * 2 ^ e
number_le a e fits = mul-le-mul_right (2 ^ e) (omega arith)

-- the product of a bound and a word
pub product_le : (a e k : ℕ) → a < 2 ^ 32 → k < 2 ^ 64 → a * 2 ^ e * k ≤ 4294967295 * 2 ^ (e + 64)
product_le a e k fits word =
    let most : k ≤ 2 ^ 64 = omega arith in
    omega (arith, mul-le-mul (number_le a e fits) most, mul_assoc 4294967295 (2 ^ e) (2 ^ 64), pow-add 2 e 64)

-- the product of two bounds
pub times_le : (a e b f : ℕ) → a < 2 ^ 32 → b < 2 ^ 32 → a * 2 ^ e * (b * 2 ^ f) ≤ 4294967295 * 2 ^ (e + f + 32)
times_le a e b f fits fits' =
    let first : a * b ≤ 4294967295 * 2 ^ 32 = mul-le-mul {n₁ = a} {m₁ = b} {n₂ = 4294967295} {m₂ = 2 ^ 32} (omega arith) (omega arith) in
    let both : a * b * 2 ^ (e + f) ≤ 4294967295 * 2 ^ 32 * 2 ^ (e + f) = mul-le-mul_right (2 ^ (e + f)) first in
    let apart : a * 2 ^ e * (b * 2 ^ f) ≡ a * b * 2 ^ (e + f) = mul-mul-mul_comm a (2 ^ e) b (2 ^ f) ∙ ap (λ z. a * b * z) (sym (pow-add 2 e f)) in
    omega (arith, both, apart, pow-add 2 (e + f) 32)

-- the sum of two bounds
pub plus_le : (a e b f : ℕ) → a < 2 ^ 32 → b < 2 ^ 32 → a * 2 ^ e + b * 2 ^ f ≤ 4294967295 * 2 ^ (max e f + 1)
plus_le a e b f fits fits' =
    let m = max e f in
    let one : 2 ^ e ≤ 2 ^ m = pow-le-pow_right (lit< tt) (omega arith) in
    let two : 2 ^ f ≤ 2 ^ m = pow-le-pow_right (lit< tt) (omega arith) in
    let next : 2 ^ (m + 1) ≡ 2 * 2 ^ m = pow-add 2 m 1 ∙ mul_comm (2 ^ m) 2 in
    omega (arith, number_le a e fits, number_le b f fits', one, two, next)

pub div_ceil_le_self : (x d : ℕ) → 0 < d → div_ceil x d ≤ x
div_ceil_le_self x d pos = div_ceil_le x d x pos (omega (arith, mul-le-mul_left x pos))
