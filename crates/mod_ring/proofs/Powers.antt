-- Powers modulo q by squaring.
use Rattle.std.proofs.Common.{◌≡◌, ℕ, ◌+◌, ◌*◌, ◌%◌, ◌^◌, ◌<◌, ap, sym, ◌∙◌, refl, add-one, arith}
use Rattle.std.proofs.Math.Nat.{pow-suc, pow-zero, mod-eq_of_lt}
use Rattle.std.proofs.lemmas.Nat.{mul-mod_first, mul-mod_second, pow-mod, pow-add, mul-pow}

square_power : (b k : ℕ) → (b * b) ^ k ≡ b ^ (2 * k)
square_power b k = mul-pow b b k ∙ sym (pow-add b k k) ∙ ap (λ n. b ^ n) (omega arith)

pub even_step : (q p b r k : ℕ) → r ≡ 2 * k → (p * (b * b % q) ^ k) % q ≡ (p * b ^ r) % q
even_step q p b r k e =
    sym (mul-mod_second p ((b * b % q) ^ k) q) ∙ ap (λ n. (p * n) % q) (pow-mod (b * b) k q ∙ ap (λ n. n % q) (square_power b k ∙ ap (λ n. b ^ n) (sym e))) ∙ mul-mod_second p (b ^ r) q

pub odd_step : (q p b r k : ℕ) → r ≡ 2 * k + 1 → (p * b % q * (b * b % q) ^ k) % q ≡ (p * b ^ r) % q
odd_step q p b r k e =
    mul-mod_first (p * b) ((b * b % q) ^ k) q ∙ even_step q (p * b) b (2 * k) k refl ∙ ap (λ n. n % q) (omega (arith, ap (λ n. p * n) (ap (λ n. b ^ n) e ∙ one_more)))
  where
    one_more : b ^ (2 * k + 1) ≡ b ^ (2 * k) * b
    one_more = ap (λ n. b ^ n) (add-one (2 * k)) ∙ pow-suc b (2 * k)

-- one step of the loop, from the power p and the base b to p' and b'
pub even_kept : (q p b r k p' b' : ℕ) → p' ≡ p → b' ≡ b * b % q → r ≡ 2 * k → (p' * b' ^ k) % q ≡ (p * b ^ r) % q
even_kept q p b r k p' b' same base e = ap (λ n. (n * b' ^ k) % q) same ∙ ap (λ n. (p * n ^ k) % q) base ∙ even_step q p b r k e

pub odd_kept : (q p b r k p' b' : ℕ) → p' ≡ p * b % q → b' ≡ b * b % q → r ≡ 2 * k + 1 → (p' * b' ^ k) % q ≡ (p * b ^ r) % q
odd_kept q p b r k p' b' more base e = ap (λ n. (n * b' ^ k) % q) more ∙ ap (λ n. (p * b % q * n ^ k) % q) base ∙ odd_step q p b r k e

pub finished : (q p b r v : ℕ) → r ≡ 0 → p < q → (p * b ^ r) % q ≡ v → p ≡ v
finished q p b r v e p_in f = sym (mod-eq_of_lt p_in) ∙ ap (λ n. n % q) (sym nothing_left) ∙ f
  where
    nothing_left : p * b ^ r ≡ p
    nothing_left = omega (arith, ap (λ n. p * n) (ap (λ n. b ^ n) e ∙ pow-zero b))
