-- Sums and products of congruent numbers.
use Rattle.std.proofs.Common.{◌≡◌, ℕ, zero, suc, ◌+◌, ◌*◌, ◌%◌, ◌^◌, ◌<◌, sym, ◌∙◌, ap, ap₂, arith}
use Rattle.std.proofs.Math.Nat.{add-mod, pow-zero, pow-suc, add-mul-mod_self_left}
use Rattle.std.proofs.lemmas.Nat.{mul-mod, pow-mod, pow-add}

pub add_congruent : (q a b c d : ℕ) → a % q ≡ b % q → c % q ≡ d % q → (a + c) % q ≡ (b + d) % q
add_congruent q a b c d e f = add-mod a c q ∙ ap₂ (λ y z. (y + z) % q) e f ∙ sym (add-mod b d q)

pub mul_congruent : (q a b c d : ℕ) → a % q ≡ b % q → c % q ≡ d % q → (a * c) % q ≡ (b * d) % q
mul_congruent q a b c d e f = mul-mod a c q ∙ ap₂ (λ y z. (y * z) % q) e f ∙ sym (mul-mod b d q)

pub times_congruent : (q c a b : ℕ) → a % q ≡ b % q → (c * a) % q ≡ (c * b) % q
times_congruent q c a b e = mul_congruent q c c a b (λ i. c % q) e

pub pow_congruent : (q a b n : ℕ) → a % q ≡ b % q → a ^ n % q ≡ b ^ n % q
pow_congruent q a b n e = sym (pow-mod a n q) ∙ ap (λ z. z ^ n % q) e ∙ pow-mod b n q

-- a power of a power
pub pow-mul : (a m n : ℕ) → a ^ (m * n) ≡ (a ^ m) ^ n
pow-mul a m zero = ap (λ z. a ^ z) (none m) ∙ pow-zero a ∙ sym (pow-zero (a ^ m))
  where
    none : (m : ℕ) → m * 0 ≡ 0
    none m = omega arith
pow-mul a m (suc n) = ap (λ z. a ^ z) (more m n) ∙ pow-add a (m * n) m ∙ ap (λ z. z * a ^ m) (pow-mul a m n) ∙ sym (pow-suc (a ^ m) n)
  where
    more : (m n : ℕ) → m * suc n ≡ m * n + m
    more m n = omega arith

-- a summand falls away: add what completes it to a multiple of q
pub cancel : (q a b c : ℕ) → 0 < q → (a + c) % q ≡ (b + c) % q → a % q ≡ b % q
cancel zero a b c on e = absurd (omega arith)
cancel (suc p) a b c on e = sym (add-mul-mod_self_left a (suc p) c) ∙ ap (λ z. z % suc p) (fill a) ∙ add_congruent (suc p) (a + c) (b + c) (p * c) (p * c) e (λ i. (p * c) % suc p) ∙ ap (λ z. z % suc p) (sym (fill b)) ∙ add-mul-mod_self_left b (suc p) c
  where
    fill : (a : ℕ) → a + suc p * c ≡ (a + c) + p * c
    fill a = let n : suc p ≡ p + 1 = omega arith in omega (arith, ap (λ z. z * c) n)
