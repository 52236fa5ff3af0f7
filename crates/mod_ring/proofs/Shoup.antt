-- The product by a constant w whose quotient p = w B / q is known: w x - h q with h = p x / B, where B is the size of a word.
use Rattle.std.proofs.Common.{◌≡◌, ℕ, ◌+◌, ◌-◌, ◌*◌, ◌/◌, ◌%◌, ◌<◌, ◌≤◌, ap, sym, ◌∙◌, arith}
use Rattle.std.proofs.Math.Nat.{div-add-mod', le_of_mul-le-mul_right, lt_of_mul-lt-mul_right, add-mul-mod_self_right}
use Rattle.std.proofs.lemmas.Nat.{mod_below, mul-lt}

meets : (B w q x p h r s : ℕ) → p * q + r ≡ w * B → h * B + s ≡ p * x → w * x * B ≡ h * q * B + (r * x + s * q)
meets B w q x p h r s e f = omega (arith, ap (λ z. z * x) e, ap (λ z. z * q) f)

-- both rests together are below 2 q B
small : (B q x r s : ℕ) → 0 < q → x < B → r < q → s < B → r * x + s * q < 2 * q * B
small B q x r s q_on x_in r_in s_in = omega (arith, mul-lt r x q B r_in x_in, mul-lt s q B (q + 1) s_in (omega arith), s_times)
  where
    s_times : s * q ≤ B * q
    s_times = grind arith

the_meeting : (B w q x p : ℕ) → p ≡ w * B / q → w * x * B ≡ p * x / B * q * B + ((w * B) % q * x + (p * x) % B * q)
the_meeting B w q x p e =
    meets B w q x p (p * x / B) ((w * B) % q) ((p * x) % B) (ap (λ z. z * q + (w * B) % q) e ∙ div-add-mod' (w * B) q) (div-add-mod' (p * x) B)

the_rests : (B w q x p : ℕ) → 0 < q → x < B → (w * B) % q * x + (p * x) % B * q < 2 * q * B
the_rests B w q x p q_on x_in = small B q x ((w * B) % q) ((p * x) % B) q_on x_in (mod_below (w * B) q q_on) (mod_below (p * x) B (omega arith))

pub quotient_low : (B w q x p : ℕ) → 0 < q → x < B → p ≡ w * B / q → p * x / B * q ≤ w * x
quotient_low B w q x p q_on x_in e =
    le_of_mul-le-mul_right {k = B} (omega (arith, the_meeting B w q x p e)) (omega arith)

pub rest_below : (B w q x p : ℕ) → 0 < q → x < B → p ≡ w * B / q → w * x - p * x / B * q < 2 * q
rest_below B w q x p q_on x_in e =
    let near : w * x < p * x / B * q + 2 * q = lt_of_mul-lt-mul_right B (omega (arith, the_meeting B w q x p e, the_rests B w q x p q_on x_in)) in
    omega arith

pub rest_congruent : (B w q x p : ℕ) → 0 < q → x < B → p ≡ w * B / q → (w * x - p * x / B * q) % q ≡ (w * x) % q
rest_congruent B w q x p q_on x_in e =
    let low = quotient_low B w q x p q_on x_in e in
    sym (add-mul-mod_self_right (w * x - p * x / B * q) (p * x / B) q) ∙ ap (λ n. n % q) (together low)
  where
    together : p * x / B * q ≤ w * x → w * x - p * x / B * q + p * x / B * q ≡ w * x
    together low = omega arith
