-- Powers, geometric sums, multiples of one, and divisibility.
use Rattle.std.specs.Prelude.{◌≡◌, ℕ, zero, suc, ◌+◌ as ◌+ₙ◌, ◌*◌ as ◌*ₙ◌, ◌<◌, [], ◌∷◌, refl}
use Rattle.std.proofs.Common.{arith, sym, ◌∙◌, ap, ap₂}
use Rattle.algebra.specs.Ring.{CommRing}
use Rattle.algebra.specs.Range.{adds}
use Rattle.algebra.specs.Power.{power, geometric, number, Divides, IsUnit, Meets, less}
use Rattle.algebra.proofs.Basic.{mul_one, zero_mul, mul_zero}
use Rattle.algebra.proofs.Ranges.{total_cong, add_laws, total_split}
use Rattle.algebra.specs.Expression.{var, :0, :1, minus, ◌:+◌, ◌:-◌, ◌:*◌}
use Rattle.algebra.proofs.Solver.{solve, env, solve1, solve2, solve3, solve4}

module _ (R : CommRing) where
  open R use {add as ◌+◌, mul as ◌*◌, neg as neg, zero as 𝟘, one as 𝟙}

  infixl 70 ◌+◌
  infixl 70 ◌-◌
  infixl 75 ◌*◌
  abbrev ◌-◌ : R.Carrier → R.Carrier → R.Carrier
  a - b = less R.ops a b

  abbrev pow : R.Carrier → ℕ → R.Carrier
  pow x n = power R.ops x n

  abbrev geo : R.Carrier → ℕ → R.Carrier
  geo x n = geometric R.ops x n

  abbrev num : ℕ → R.Carrier
  num n = number R.ops n

  pub power-add : (x : R.Carrier) (m n : ℕ) → pow x (m +ₙ n) ≡ pow x m * pow x n
  power-add x zero n = ap (pow x) (none n) ∙ sym (R.one_mul (pow x n))
    where
      none : (n : ℕ) → 0 +ₙ n ≡ n
      none n = omega arith
  power-add x (suc m) n = ap (pow x) (next m n) ∙ ap (λ z. x * z) (power-add x m n) ∙ sym (R.mul_assoc x (pow x m) (pow x n))
    where
      next : (m n : ℕ) → suc m +ₙ n ≡ suc (m +ₙ n)
      next m n = omega arith

  pub power-mul : (x : R.Carrier) (m n : ℕ) → pow x (m *ₙ n) ≡ pow (pow x m) n
  power-mul x m zero = ap (pow x) (none m)
    where
      none : (m : ℕ) → m *ₙ 0 ≡ 0
      none m = omega arith
  power-mul x m (suc n) = ap (pow x) (next m n) ∙ power-add x m (m *ₙ n) ∙ ap (λ z. pow x m * z) (power-mul x m n)
    where
      next : (m n : ℕ) → m *ₙ suc n ≡ m +ₙ m *ₙ n
      next m n = omega arith

  pub power-product : (a b : R.Carrier) (n : ℕ) → pow (a * b) n ≡ pow a n * pow b n
  power-product a b zero = sym (R.one_mul 𝟙)
  power-product a b (suc n) = ap (λ z. a * b * z) (power-product a b n) ∙ solve4 R (λ a b c d. a :* b :* (c :* d)) (λ a b c d. a :* c :* (b :* d)) refl a b (pow a n) (pow b n)

  pub power_one : (n : ℕ) → pow 𝟙 n ≡ 𝟙
  power_one zero = refl
  power_one (suc n) = R.one_mul (pow 𝟙 n) ∙ power_one n

  pub power_zero : (n : ℕ) → 0 < n → pow 𝟘 n ≡ 𝟘
  power_zero zero l = absurd (omega arith)
  power_zero (suc n) l = zero_mul R (pow 𝟘 n)

  -- the one factor on the right
  pub power_last : (x : R.Carrier) (n : ℕ) → pow x (suc n) ≡ pow x n * x
  power_last x n = R.mul_comm x (pow x n)

  pub geometric_one : (n : ℕ) → geo 𝟙 n ≡ num n
  geometric_one n = total_cong (adds R.ops) (add_laws R) n (pow 𝟙) (λ i. 𝟙) (λ i l. power_one i)

  -- (x - 1) (1 + x + .. + x^(n - 1)) = x^n - 1
  pub geometric_is : (x : R.Carrier) (n : ℕ) → (x - 𝟙) * geo x n ≡ pow x n - 𝟙
  geometric_is x zero = solve1 R (λ a. (a :- :1) :* :0) (λ a. :1 :- :1) refl x
  geometric_is x (suc n) = solve3 R (λ x g p. (x :- :1) :* (g :+ p)) (λ x g p. (x :- :1) :* g :+ (x :* p :- p)) refl x (geo x n) (pow x n) ∙ ap (λ z. z + (x * pow x n - pow x n)) (geometric_is x n) ∙ solve2 R (λ x p. p :- :1 :+ (x :* p :- p)) (λ x p. x :* p :- :1) refl x (pow x n)

  -- the geometric sum is n up to a multiple of x - 1
  pub geometric_near : (x : R.Carrier) (n : ℕ) → (v : R.Carrier) × (geo x n ≡ num n + (x - 𝟙) * v)
  geometric_near x zero = (𝟘, solve1 R (λ a. :0) (λ a. :0 :+ (a :- :1) :* :0) refl x)
  geometric_near x (suc n) = go (geometric_near x n)
    where
      go : (v : R.Carrier) × (geo x n ≡ num n + (x - 𝟙) * v) → (v : R.Carrier) × (geo x n + pow x n ≡ num n + 𝟙 + (x - 𝟙) * v)
      go (v, e) = (v + geo x n, ap₂ (λ y z. y + z) e (solve1 R (λ a. a) (λ a. a :- :1 :+ :1) refl (pow x n) ∙ ap (λ z. z + 𝟙) (sym (geometric_is x n))) ∙ solve4 R (λ k x v g. k :+ (x :- :1) :* v :+ ((x :- :1) :* g :+ :1)) (λ k x v g. k :+ :1 :+ (x :- :1) :* (v :+ g)) refl (num n) x v (geo x n))

  pub number-add : (m n : ℕ) → num (m +ₙ n) ≡ num m + num n
  number-add m n = total_split (adds R.ops) (add_laws R) m n (λ i. 𝟙)

  pub number-mul : (m n : ℕ) → num (m *ₙ n) ≡ num m * num n
  number-mul m zero = ap num (none m) ∙ sym (mul_zero R (num m))
    where
      none : (m : ℕ) → m *ₙ 0 ≡ 0
      none m = omega arith
  number-mul m (suc n) = ap num (next m n) ∙ number-add (m *ₙ n) m ∙ ap (λ z. z + num m) (number-mul m n) ∙ solve2 R (λ a b. a :* b :+ a) (λ a b. a :* (b :+ :1)) refl (num m) (num n)
    where
      next : (m n : ℕ) → m *ₙ suc n ≡ m *ₙ n +ₙ m
      next m n = omega arith

  pub Divides_refl : (a : R.Carrier) → Divides R.ops a a
  Divides_refl a = (𝟙, sym (mul_one R a))

  pub Divides_trans : (a b c : R.Carrier) → Divides R.ops a b → Divides R.ops b c → Divides R.ops a c
  Divides_trans a b c (u, e) (v, f) = (u * v, f ∙ ap (λ z. z * v) e ∙ R.mul_assoc a u v)

  pub Divides_one : (a : R.Carrier) → Divides R.ops 𝟙 a
  Divides_one a = (a, sym (R.one_mul a))

  pub Divides-zero : (a : R.Carrier) → Divides R.ops a 𝟘
  Divides-zero a = (𝟘, sym (mul_zero R a))

  pub Divides-mul : (a b c : R.Carrier) → Divides R.ops a b → Divides R.ops a (b * c)
  Divides-mul a b c (u, e) = (u * c, ap (λ z. z * c) e ∙ R.mul_assoc a u c)

  pub Divides-add : (a b c : R.Carrier) → Divides R.ops a b → Divides R.ops a c → Divides R.ops a (b + c)
  Divides-add a b c (u, e) (v, f) = (u + v, ap₂ (λ y z. y + z) e f ∙ solve3 R (λ a u v. a :* u :+ a :* v) (λ a u v. a :* (u :+ v)) refl a u v)

  pub Divides-neg : (a b : R.Carrier) → Divides R.ops a b → Divides R.ops a (neg b)
  Divides-neg a b (u, e) = (neg u, ap neg e ∙ solve2 R (λ a u. minus (a :* u)) (λ a u. a :* minus u) refl a u)

  -- both sides of a product
  pub Divides_product : (a b c d : R.Carrier) → Divides R.ops a b → Divides R.ops c d → Divides R.ops (a * c) (b * d)
  Divides_product a b c d (u, e) (v, f) = (u * v, ap₂ (λ y z. y * z) e f ∙ solve4 R (λ a u c v. a :* u :* (c :* v)) (λ a u c v. a :* c :* (u :* v)) refl a u c v)

  pub unit_of_divisor : (a b : R.Carrier) → Divides R.ops a b → IsUnit R.ops b → IsUnit R.ops a
  unit_of_divisor a b d u = Divides_trans a b 𝟙 d u

  pub unit_product : (a b : R.Carrier) → IsUnit R.ops a → IsUnit R.ops b → IsUnit R.ops (a * b)
  unit_product a b (u, e) (v, f) = (u * v, sym (R.one_mul 𝟙) ∙ ap₂ (λ y z. y * z) e f ∙ solve4 R (λ a u b v. a :* u :* (b :* v)) (λ a u b v. a :* b :* (u :* v)) refl a u b v)

  -- a unit can be taken away from a product
  pub unit_cancel : (a b c : R.Carrier) → IsUnit R.ops a → a * b ≡ a * c → b ≡ c
  unit_cancel a b c (u, e) f = sym (R.one_mul b) ∙ ap (λ z. z * b) e ∙ solve3 R (λ a u b. a :* u :* b) (λ a u b. u :* (a :* b)) refl a u b ∙ ap (λ z. u * z) f ∙ solve3 R (λ a u c. u :* (a :* c)) (λ a u c. a :* u :* c) refl a u c ∙ ap (λ z. z * c) (sym e) ∙ R.one_mul c

  pub Meets_sym : (a b c : R.Carrier) → Meets R.ops a b c → Meets R.ops b a c
  Meets_sym a b c (u, v, e) = (v, u, e ∙ R.add_comm (u * a) (v * b))

  pub Meets_of_divisors : (a b a' b' c : R.Carrier) → Divides R.ops a a' → Divides R.ops b b' → Meets R.ops a' b' c → Meets R.ops a b c
  Meets_of_divisors a b a' b' c (x, e) (y, f) (u, v, g) = (u * x, v * y, g ∙ ap₂ (λ p q. u * p + v * q) e f ∙ solve R (env 𝟘 (a ∷ b ∷ x ∷ y ∷ u ∷ v ∷ [])) (var 4 :* (var 0 :* var 2) :+ var 5 :* (var 1 :* var 3)) (var 4 :* var 2 :* var 0 :+ var 5 :* var 3 :* var 1) refl)

  pub Meets_product : (a b c n k : R.Carrier) → Meets R.ops a c n → Meets R.ops b c k → Meets R.ops (a * b) c (n * k)
  Meets_product a b c n k m l = (
    m.0 * l.0,
    m.0 * a * l.1 + m.1 * l.0 * b + m.1 * c * l.1,
    ap₂ (λ y z. y * z) m.2 l.2 ∙ solve R (env 𝟘 (m.0 ∷ l.0 ∷ a ∷ b ∷ m.1 ∷ l.1 ∷ c ∷ []))
        ((var 0 :* var 2 :+ var 4 :* var 6) :* (var 1 :* var 3 :+ var 5 :* var 6))
        (var 0 :* var 1 :* (var 2 :* var 3) :+ (var 0 :* var 2 :* var 5 :+ var 4 :* var 1 :* var 3 :+ var 4 :* var 6 :* var 5) :* var 6) refl,
  )

  -- two divisors of f that meet in n: their product divides n f
  pub product_divides : (a b f n : R.Carrier) → Divides R.ops a f → Divides R.ops b f → Meets R.ops a b n → Divides R.ops (a * b) (n * f)
  product_divides a b f n (x, e) (y, g) (u, v, m) = (u * y + v * x, ap (λ z. z * f) m ∙ R.add_mul (u * a) (v * b) f ∙ ap₂ (λ p q. u * a * p + v * b * q) g e ∙ solve R (env 𝟘 (a ∷ b ∷ x ∷ y ∷ u ∷ v ∷ [])) (var 4 :* var 0 :* (var 1 :* var 3) :+ var 5 :* var 1 :* (var 0 :* var 2)) (var 0 :* var 1 :* (var 4 :* var 3 :+ var 5 :* var 2)) refl)

  -- a divisor of a b that meets a in n divides n b
  pub divides_other : (g a b n : R.Carrier) → Divides R.ops g (a * b) → Meets R.ops g a n → Divides R.ops g (n * b)
  divides_other g a b n (x, e) (u, v, m) = (u * b + v * x, ap (λ z. z * b) m ∙ solve R (env 𝟘 (g ∷ a ∷ b ∷ u ∷ v ∷ [])) ((var 3 :* var 0 :+ var 4 :* var 1) :* var 2) (var 3 :* var 0 :* var 2 :+ var 4 :* (var 1 :* var 2)) refl ∙ ap (λ z. u * g * b + v * z) e ∙ solve R (env 𝟘 (g ∷ x ∷ b ∷ u ∷ v ∷ [])) (var 3 :* var 0 :* var 2 :+ var 4 :* (var 0 :* var 1)) (var 0 :* (var 3 :* var 2 :+ var 4 :* var 1)) refl)

  pub power_divides : (x : R.Carrier) (m n : ℕ) → Divides R.ops (pow x m - 𝟙) (pow x (m *ₙ n) - 𝟙)
  power_divides x m n = (geo (pow x m) n, ap (λ z. z - 𝟙) (power-mul x m n) ∙ sym (geometric_is (pow x m) n))

  -- X^g - 1 = (X^(d u) - 1) - X^g (X^(e v) - 1)
  pub powers_meet : (x : R.Carrier) (d u e v g : ℕ) → d *ₙ u ≡ e *ₙ v +ₙ g → Meets R.ops (pow x d - 𝟙) (pow x e - 𝟙) (pow x g - 𝟙)
  powers_meet x d u e v g s = Meets_of_divisors (pow x d - 𝟙) (pow x e - 𝟙) (pow x (d *ₙ u) - 𝟙) (pow x (e *ₙ v) - 𝟙) (pow x g - 𝟙) (power_divides x d u) (power_divides x e v) (𝟙, neg (pow x g), sym (ap (λ z. 𝟙 * (z - 𝟙) + neg (pow x g) * (pow x (e *ₙ v) - 𝟙)) (ap (pow x) s ∙ power-add x (e *ₙ v) g) ∙ solve2 R (λ p q. :1 :* (p :* q :- :1) :+ minus q :* (p :- :1)) (λ p q. q :- :1) refl (pow x (e *ₙ v)) (pow x g)))

  -- what divides the geometric sum of k powers of x^g, and what divides x^n - 1, meet in k where g is met by g k and n
  pub meets_in_number : (x a b : R.Carrier) (g k n u v : ℕ) → Divides R.ops a (geo (pow x g) k) → Divides R.ops b (pow x n - 𝟙) → (g *ₙ k) *ₙ u ≡ n *ₙ v +ₙ g → Meets R.ops a b (num k)
  meets_in_number x a b g k n u v d e s = Meets_of_divisors a b w (pow x n - 𝟙) (num k) d e (go (geometric_near (pow x g) k) (powers_meet x (g *ₙ k) u n v g s))
    where
      w : R.Carrier
      w = geo (pow x g) k

      y : R.Carrier
      y = pow x g - 𝟙

      -- x^(g k) - 1 is a multiple of w
      multiple : pow x (g *ₙ k) - 𝟙 ≡ y * w
      multiple = ap (λ z. z - 𝟙) (power-mul x g k) ∙ sym (geometric_is (pow x g) k)

      go : (r : R.Carrier) × (w ≡ num k + y * r) → Meets R.ops (pow x (g *ₙ k) - 𝟙) (pow x n - 𝟙) y → Meets R.ops w (pow x n - 𝟙) (num k)
      go (r, f) (p, q, h) = (𝟙 - p * y * r, neg (q * r), solve3 R (λ k y r. k) (λ k y r. k :+ y :* r :- y :* r) refl (num k) y r ∙ ap₂ (λ s t. s - t * r) (sym f) (h ∙ ap (λ z. p * z + q * (pow x n - 𝟙)) multiple) ∙ solve R (env 𝟘 (w ∷ p ∷ y ∷ r ∷ q ∷ (pow x n - 𝟙) ∷ [])) (var 0 :- (var 1 :* (var 2 :* var 0) :+ var 4 :* var 5) :* var 3) ((:1 :- var 1 :* var 2 :* var 3) :* var 0 :+ minus (var 4 :* var 3) :* var 5) refl)
