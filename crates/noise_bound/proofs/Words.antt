-- Rounding on words of 128 bits.
use Rattle.std.proofs.Common.{lit<, ◌≡◌, ℕ, suc, ◌+◌, ◌-◌, ◌*◌, ◌/◌, ◌%◌, ◌^◌, ◌<◌, ◌≤◌, inl, inr, sym, ap, ◌∙◌, arith, min}
use Rattle.std.proofs.Math.Nat.{mul-le-mul_right, mul-le-mul_left, mul-lt-mul_of_pos_right, le_of_mul-le-mul_right, le-div_iff_mul-le, mod-eq_of_lt, pow-le-pow_right, mul_assoc, mul_comm, le_trans}
use Rattle.std.proofs.lemmas.Nat.{pow_pos, pow-add, leading_length, leading_top}
use Rattle.std.specs.Int.{div_ceil}
use Rattle.std.specs.Int.Count.{count_leading_zeros}
use Rattle.noise_bound.specs.Rounding.{up, down}
use Rattle.noise_bound.proofs.RoundingLaws.{IsExponent, exponent_of_length, le-div_ceil, le_or_above, IsUp-at, IsDown-at, up_unique, down_unique, up-power, down-power}

-- what 32 bits leave out of a word
pub excess_is : (n s : ℕ) → n < 2 ^ 128 → s ≡ 128 - count_leading_zeros 128 n - 32 → (s ≤ 96) × IsExponent n s
excess_is n s fits is =
    let l = leading_length 128 n fits in
    let same : s ≡ l.0 - 32 = omega (arith, l.1, is) in
    (omega (arith, is), rw same (exponent_of_length n l.0 l.2 l.3))

-- a number that is shifted to the left, to the top of the word or by as much as there is
pub record IsLifted (n e l : ℕ) : Type 0 where
  pub less : l ≤ e
  pub fits : n * 2 ^ l < 2 ^ 128
  pub long : 0 < e - l → 2 ^ 127 ≤ n * 2 ^ l

pub lifted_is : (n e l : ℕ) → 0 < n → n < 2 ^ 128 → l ≡ min (count_leading_zeros 128 n) e → IsLifted n e l
lifted_is n e l pos fits is =
    let t = leading_top 128 n pos fits in
    let z = count_leading_zeros 128 n in
    let all : suc t.0 + z ≡ 128 = omega (arith, t.1) in
    let most : t.0 + z ≡ 127 = omega (arith, t.1) in
    let top : 2 ^ suc t.0 * 2 ^ z ≡ 2 ^ 128 = sym (pow-add 2 (suc t.0) z) ∙ ap (λ k. 2 ^ k) all in
    let high : 2 ^ t.0 * 2 ^ z ≡ 2 ^ 127 = sym (pow-add 2 t.0 z) ∙ ap (λ k. 2 ^ k) most in
    let under : n * 2 ^ z < 2 ^ 128 = omega (arith, top, mul-lt-mul_of_pos_right t.3 (pow_pos z)) in
    let part : 2 ^ l ≤ 2 ^ z = pow-le-pow_right (lit< tt) (omega (arith, is)) in
    record {
      less = omega (arith, is);
      fits = omega (arith, mul-le-mul_left n part, under);
      long = λ more.
          let whole : l ≡ z = omega (arith, is) in
          rw whole (omega (arith, high, mul-le-mul_right (2 ^ z) t.2));
    }

pub lifted-same : (n e l : ℕ) → IsLifted n e l → n * 2 ^ l % 2 ^ 128 * 2 ^ (e - l) ≡ n * 2 ^ e
lifted-same n e l h =
    let whole : l + (e - l) ≡ e = omega (arith, h.less) in
    ap (λ z. z * 2 ^ (e - l)) (mod-eq_of_lt h.fits) ∙ mul_assoc n (2 ^ l) (2 ^ (e - l))
    ∙ ap (λ z. n * z) (sym (pow-add 2 l (e - l)) ∙ ap (λ k. 2 ^ k) whole)

pub lifted-long : (n e l : ℕ) → IsLifted n e l → 0 < e - l → 2 ^ 127 ≤ n * 2 ^ l % 2 ^ 128
lifted-long n e l h more = rw (mod-eq_of_lt h.fits) (h.long more)

-- a word times a power of two, rounded: the word is long, or the power is 1
module _ (n e cut : ℕ) (long : 0 < e → 2 ^ 127 ≤ n) (ex : IsExponent n cut) where
  no_power : cut ≡ 0 → 0 < e → 2 ^ 31 ≤ n
  no_power none some = omega (arith, long some)

  pub up-full : 0 < e + cut → 2 ^ 31 ≤ div_ceil n (2 ^ cut)
  up-full some =
      le_of_mul-le-mul_right (le_trans lower (le-div_ceil n (2 ^ cut) (pow_pos cut))) (pow_pos cut)
    where
      lower : 2 ^ 31 * 2 ^ cut ≤ n
      lower = elim (le_or_above cut 0) [
        | inl none ↦
            let c0 : cut ≡ 0 = omega arith in
            rw c0 (omega (arith, no_power c0 (omega arith)))
        | inr some ↦ ex.full some
      ]

  pub down-full : 0 < e + cut → 2 ^ 31 ≤ n / 2 ^ cut
  down-full some = (le-div_iff_mul-le (pow_pos cut)).1 lower
    where
      lower : 2 ^ 31 * 2 ^ cut ≤ n
      lower = elim (le_or_above cut 0) [
        | inl none ↦
            let c0 : cut ≡ 0 = omega arith in
            rw c0 (omega (arith, no_power c0 (omega arith)))
        | inr some ↦ ex.full some
      ]

  spread : (q : ℕ) → q * 2 ^ (e + cut) ≡ q * 2 ^ cut * 2 ^ e
  spread q = ap (λ z. q * z) (pow-add 2 e cut ∙ mul_comm (2 ^ e) (2 ^ cut)) ∙ sym (mul_assoc q (2 ^ cut) (2 ^ e))

  pub up-value : div_ceil n (2 ^ cut) * 2 ^ (e + cut) ≡ up (n * 2 ^ e)
  up-value = spread (div_ceil n (2 ^ cut)) ∙ ap (λ z. z * 2 ^ e) (up_unique n _ (IsUp-at n cut ex)) ∙ up-power n e

  pub down-value : n / 2 ^ cut * 2 ^ (e + cut) ≡ down (n * 2 ^ e)
  down-value = spread (n / 2 ^ cut) ∙ ap (λ z. z * 2 ^ e) (down_unique n _ (IsDown-at n cut ex)) ∙ down-power n e
