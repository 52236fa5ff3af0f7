-- First laws of a ring, before there is a solver.
use Rattle.std.specs.Prelude.{◌≡◌}
use Rattle.std.proofs.Common.{sym, ◌∙◌, ap}
use Rattle.algebra.specs.Ring.{CommRing}

module _ (R : CommRing) where
  open R use {add as ◌+◌, mul as ◌*◌, neg as neg, zero as 𝟘, one as 𝟙}

  infixl 70 ◌+◌
  infixl 75 ◌*◌
  pub add_zero : (a : R.Carrier) → a + 𝟘 ≡ a
  add_zero a = R.add_comm a 𝟘 ∙ R.zero_add a

  pub add_left_comm : (a b c : R.Carrier) → a + (b + c) ≡ b + (a + c)
  add_left_comm a b c = sym (R.add_assoc a b c) ∙ ap (λ z. z + c) (R.add_comm a b) ∙ R.add_assoc b a c

  pub add_neg : (a : R.Carrier) → a + neg a ≡ 𝟘
  add_neg a = R.add_comm a (neg a) ∙ R.neg_add a

  -- what is added on the left can be taken away
  pub add_cancel : (a b c : R.Carrier) → a + b ≡ a + c → b ≡ c
  add_cancel a b c e = sym (back b) ∙ ap (λ z. neg a + z) e ∙ back c
    where
      back : (z : R.Carrier) → neg a + (a + z) ≡ z
      back z = sym (R.add_assoc (neg a) a z) ∙ ap (λ y. y + z) (R.neg_add a) ∙ R.zero_add z

  pub mul_one : (a : R.Carrier) → a * 𝟙 ≡ a
  mul_one a = R.mul_comm a 𝟙 ∙ R.one_mul a

  pub mul_left_comm : (a b c : R.Carrier) → a * (b * c) ≡ b * (a * c)
  mul_left_comm a b c = sym (R.mul_assoc a b c) ∙ ap (λ z. z * c) (R.mul_comm a b) ∙ R.mul_assoc b a c

  pub mul_add : (a b c : R.Carrier) → a * (b + c) ≡ a * b + a * c
  mul_add a b c = R.mul_comm a (b + c) ∙ R.add_mul b c a ∙ ap (λ z. z + c * a) (R.mul_comm b a) ∙ ap (λ z. a * b + z) (R.mul_comm c a)

  pub zero_mul : (a : R.Carrier) → 𝟘 * a ≡ 𝟘
  zero_mul a = add_cancel (𝟘 * a) (𝟘 * a) 𝟘 (sym (R.add_mul 𝟘 𝟘 a) ∙ ap (λ z. z * a) (R.zero_add 𝟘) ∙ sym (add_zero (𝟘 * a)))

  pub mul_zero : (a : R.Carrier) → a * 𝟘 ≡ 𝟘
  mul_zero a = R.mul_comm a 𝟘 ∙ zero_mul a

  pub neg_mul : (a b : R.Carrier) → neg a * b ≡ neg (a * b)
  neg_mul a b = add_cancel (a * b) (neg a * b) (neg (a * b)) (sym (R.add_mul a (neg a) b) ∙ ap (λ z. z * b) (add_neg a) ∙ zero_mul b ∙ sym (add_neg (a * b)))

  pub neg_neg : (a : R.Carrier) → neg (neg a) ≡ a
  neg_neg a = add_cancel (neg a) (neg (neg a)) a (add_neg (neg a) ∙ sym (R.neg_add a))

  pub neg_zero : neg 𝟘 ≡ 𝟘
  neg_zero = sym (R.zero_add (neg 𝟘)) ∙ add_neg 𝟘
