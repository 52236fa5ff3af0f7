-- From an inverse of r modulo q the inverse of q modulo r.
use Rattle.std.proofs.Common.{◌≡◌, ℕ, zero, suc, ◌+◌, ◌-◌, ◌*◌, ◌/◌, ◌%◌, ◌<◌, ◌≤◌, ap, sym, ◌∙◌, arith, div-add-mod', mod-eq_of_lt}
use Rattle.std.proofs.Math.Nat.{add-mul-mod_self_right, lt_of_mul-lt-mul_right, mul-div_cancel}
use Rattle.std.proofs.lemmas.Nat.{mul-le}
use Rattle.moduli_table.specs.Accepted.{IsInverse, turned}

-- f is how often q goes into r e - 1
quotient_whole : (q r e : ℕ) → r * e % q ≡ 1 → r * e / q * q + 1 ≡ r * e
quotient_whole q r e h = omega (arith, div-add-mod' (r * e) q, h)

pub quotient_is : (q r e f : ℕ) → 0 < q → f * q + 1 ≡ r * e → (r * e - 1) / q ≡ f
quotient_is q r e f p w = ap (λ z. z / q) (let t : r * e - 1 ≡ f * q = omega (arith, w) in t) ∙ mul-div_cancel f p

below_modulus : (q r e f : ℕ) → 0 < r → e < q → f * q + 1 ≡ r * e → f < r
below_modulus q r e f p l w = lt_of_mul-lt-mul_right q (omega (arith, w, mul-le r e r q (omega arith) (omega arith)))

above_none : (q r e f : ℕ) → 1 < r → f * q + 1 ≡ r * e → 0 < f
above_none q r e (suc f) p w = omega arith
above_none q r e zero p w = absurd (go e (omega (arith, w)))
  where
    go : (e : ℕ) → r * e ≡ 1 → ⊥
    go zero h = omega (arith, h)
    go (suc e) h = omega (arith, h, mul-le 2 1 r (suc e) p (omega arith))

turned_product : (q r e f t u : ℕ) → t + f ≡ r → u + e ≡ q → f * q + 1 ≡ r * e → q * t ≡ 1 + u * r
turned_product q r e f t u h k w = omega (arith, ap (λ z. q * z) h, ap (λ z. z * r) k, w)

-- the quotient is below r, and the rest of r is the inverse
pub quotient_below : (q r e : ℕ) → 1 < q → 1 < r → IsInverse q r e → (r * e - 1) / q < r
quotient_below q r e p l h = let w = quotient_whole q r e h.one in omega (arith, quotient_is q r e (r * e / q) (omega arith) w, below_modulus q r e (r * e / q) (omega arith) h.below w)

pub entry_positive : (q r e : ℕ) → IsInverse q r e → 1 ≤ r * e
entry_positive q r e h = omega (arith, quotient_whole q r e h.one)

pub turned_inverse : (q r e : ℕ) → 1 < q → 1 < r → IsInverse q r e → IsInverse r q (turned q r e)
turned_inverse q r e p l h = record { below = omega (arith, at, above_none q r e f l w); one = ap (λ z. z % r) (turned_product q r e f (turned q r e) (q - e) (omega (arith, at, below_modulus q r e f (omega arith) h.below w)) (omega (arith, h.below)) w) ∙ add-mul-mod_self_right 1 (q - e) r ∙ mod-eq_of_lt l }
  where
    f : ℕ
    f = r * e / q

    w : f * q + 1 ≡ r * e
    w = quotient_whole q r e h.one

    at : (r * e - 1) / q ≡ f
    at = quotient_is q r e f (omega arith) w

-- the same of equal numbers
pub same_inverse_of : (q k e q' k' e' : ℕ) → q ≡ q' → k ≡ k' → e ≡ e' → IsInverse q k e → IsInverse q' k' e'
same_inverse_of q k e q' k' e' a b c h = record { below = omega (arith, a, c, h.below); one = ap (λ z. z * e' % q') (sym b) ∙ ap (λ z. k * z % q') (sym c) ∙ ap (λ z. k * e % z) (sym a) ∙ h.one }
