-- A solver for equations that hold in every commutative ring.
-- An expression becomes two sorted lists of monomials, those to add and those to take away.
-- Two expressions are equal where these lists agree; the check of that is `refl`.
use Rattle.std.specs.Prelude.{◌≡◌, ℕ, zero, suc, Bool, true, false, cond, ltb, List, [], ◌∷◌, refl}
use Rattle.std.proofs.Common.{sym, ◌∙◌, ap, ap₂}
use Rattle.algebra.specs.Ring.{CommRing}
use Rattle.algebra.specs.Expression.{Expr, var, :0, :1, ◌:+◌, ◌:*◌, ◌:-◌, minus, Monomials, before, put, times, ins, join, scale, cross, Normal, both_plus, both_times, turned, normal, Same}
use Rattle.algebra.specs.Expression as written
use Rattle.algebra.proofs.Basic.{add_left_comm, mul_add, mul_one, mul_left_comm, zero_mul, mul_zero, add_cancel}

module _ (R : CommRing) (ρ : ℕ → R.Carrier) where
  open R use {add as ◌+◌, mul as ◌*◌, neg as neg, zero as 𝟘, one as 𝟙}

  infixl 70 ◌+◌
  infixl 75 ◌*◌
  abbrev pub value : Expr → R.Carrier
  value e = written.value R.ops ρ e

  abbrev product : List ℕ → R.Carrier
  product [] = 𝟙
  product (x ∷ xs) = ρ x * product xs

  abbrev sum : Monomials → R.Carrier
  sum [] = 𝟘
  sum (m ∷ ms) = product m + sum ms

  product-put : (x : ℕ) (ys : List ℕ) → product (put x ys) ≡ ρ x * product ys
  product-put x [] = refl
  product-put x (y ∷ ys) = go (ltb y x) (product-put x ys)
    where
      go : (b : Bool) → product (put x ys) ≡ ρ x * product ys → product (cond b (y ∷ put x ys) (x ∷ y ∷ ys)) ≡ ρ x * (ρ y * product ys)
      go true e = ap (λ z. ρ y * z) e ∙ mul_left_comm R (ρ y) (ρ x) (product ys)
      go false e = refl

  product-times : (xs ys : List ℕ) → product (times xs ys) ≡ product xs * product ys
  product-times [] ys = sym (R.one_mul (product ys))
  product-times (x ∷ xs) ys = product-put x (times xs ys) ∙ ap (λ z. ρ x * z) (product-times xs ys) ∙ sym (R.mul_assoc (ρ x) (product xs) (product ys))

  sum-ins : (m : List ℕ) (ks : Monomials) → sum (ins m ks) ≡ product m + sum ks
  sum-ins m [] = refl
  sum-ins m (k ∷ ks) = go (before m k) (sum-ins m ks)
    where
      go : (b : Bool) → sum (ins m ks) ≡ product m + sum ks → sum (cond b (m ∷ k ∷ ks) (k ∷ ins m ks)) ≡ product m + (product k + sum ks)
      go true e = refl
      go false e = ap (λ z. product k + z) e ∙ add_left_comm R (product k) (product m) (sum ks)

  sum-join : (ms ks : Monomials) → sum (join ms ks) ≡ sum ms + sum ks
  sum-join [] ks = sym (R.zero_add (sum ks))
  sum-join (m ∷ ms) ks = sum-ins m (join ms ks) ∙ ap (λ z. product m + z) (sum-join ms ks) ∙ sym (R.add_assoc (product m) (sum ms) (sum ks))

  sum-scale : (m : List ℕ) (ks : Monomials) → sum (scale m ks) ≡ product m * sum ks
  sum-scale m [] = sym (mul_zero R (product m))
  sum-scale m (k ∷ ks) = sum-ins (times m k) (scale m ks) ∙ ap₂ (λ y z. y + z) (product-times m k) (sum-scale m ks) ∙ sym (mul_add R (product m) (product k) (sum ks))

  sum-cross : (ms ks : Monomials) → sum (cross ms ks) ≡ sum ms * sum ks
  sum-cross [] ks = sym (zero_mul R (sum ks))
  sum-cross (m ∷ ms) ks = sum-join (scale m ks) (cross ms ks) ∙ ap₂ (λ y z. y + z) (sum-scale m ks) (sum-cross ms ks) ∙ sym (R.add_mul (product m) (sum ms) (sum ks))

  -- the value with what is taken away is what is added
  plus_normal : (a b : R.Carrier) (n k : Normal) → a + sum n.1 ≡ sum n.0 → b + sum k.1 ≡ sum k.0 → (a + b) + sum (both_plus n k).1 ≡ sum (both_plus n k).0
  plus_normal a b n k e f = ap (λ z. a + b + z) (sum-join n.1 k.1) ∙ regroup a b (sum n.1) (sum k.1) ∙ ap₂ (λ y z. y + z) e f ∙ sym (sum-join n.0 k.0)
    where
      regroup : (a b c d : R.Carrier) → a + b + (c + d) ≡ (a + c) + (b + d)
      regroup a b c d = simp (R.add_assoc, add_left_comm R)

  times_normal : (a b : R.Carrier) (n k : Normal) → a + sum n.1 ≡ sum n.0 → b + sum k.1 ≡ sum k.0 → a * b + sum (both_times n k).1 ≡ sum (both_times n k).0
  times_normal a b n k e f = ap (λ z. a * b + z) (two n.0 k.1 n.1 k.0) ∙ go (sum n.0) (sum n.1) (sum k.0) (sum k.1) (sym e) (sym f) ∙ sym (two n.0 k.0 n.1 k.1)
    where
      two : (p q r s : Monomials) → sum (join (cross p q) (cross r s)) ≡ sum p * sum q + sum r * sum s
      two p q r s = sum-join (cross p q) (cross r s) ∙ ap₂ (λ y z. y + z) (sum-cross p q) (sum-cross r s)

      spread : (a b y z : R.Carrier) → a * b + ((a + y) * z + y * (b + z)) ≡ (a + y) * (b + z) + y * z
      spread a b y z = simp (R.add_mul, mul_add R, R.add_assoc, add_left_comm R, R.mul_comm)

      go : (p y q z : R.Carrier) → p ≡ a + y → q ≡ b + z → a * b + (p * z + y * q) ≡ p * q + y * z
      go p y q z e f = rw (e, f) (spread a b y z)

  minus_normal : (a : R.Carrier) (n : Normal) → a + sum n.1 ≡ sum n.0 → neg a + sum n.0 ≡ sum n.1
  minus_normal a n e = ap (λ z. neg a + z) (sym e) ∙ sym (R.add_assoc (neg a) a (sum n.1)) ∙ ap (λ z. z + sum n.1) (R.neg_add a) ∙ R.zero_add (sum n.1)

  normal_is : (e : Expr) → value e + sum (normal e).1 ≡ sum (normal e).0
  normal_is (var n) = ap (λ z. z + 𝟘) (sym (mul_one R (ρ n)))
  normal_is :0 = R.zero_add 𝟘
  normal_is :1 = refl
  normal_is (a :+ b) = plus_normal (value a) (value b) (normal a) (normal b) (normal_is a) (normal_is b)
  normal_is (a :* b) = times_normal (value a) (value b) (normal a) (normal b) (normal_is a) (normal_is b)
  normal_is (minus a) = minus_normal (value a) (normal a) (normal_is a)

  -- expressions with the same normal form are equal
  pub solve : (a b : Expr) → Same a b → value a ≡ value b
  solve a b e = add_cancel R (sum (normal a).1 + sum (normal b).1) (value a) (value b) (to (value a) (sum (normal a).1) (sum (normal b).1) ∙ ap (λ z. z + sum (normal b).1) (normal_is a) ∙ sym (sum-join (normal a).0 (normal b).1) ∙ ap sum e ∙ sum-join (normal b).0 (normal a).1 ∙ ap (λ z. z + sum (normal a).1) (sym (normal_is b)) ∙ from (value b) (sum (normal a).1) (sum (normal b).1))
    where
      to : (v x y : R.Carrier) → x + y + v ≡ v + x + y
      to v x y = R.add_comm (x + y) v ∙ sym (R.add_assoc v x y)

      from : (v x y : R.Carrier) → v + y + x ≡ x + y + v
      from v x y = simp (R.add_assoc, R.add_comm, add_left_comm R)

-- the variables of an expression by their numbers
abbrev pub env : {A : Type 0} → A → List A → ℕ → A
env d [] n = d
env d (x ∷ xs) zero = x
env d (x ∷ xs) (suc n) = env d xs n

-- the same with the two sides as functions of the variables
module _ (R : CommRing) where
  abbrev pub solve1 : (f g : Expr → Expr) → Same (f (var 0)) (g (var 0)) → (a : R.Carrier) → value R (env a (a ∷ [])) (f (var 0)) ≡ value R (env a (a ∷ [])) (g (var 0))
  solve1 f g e a = solve R (env a (a ∷ [])) (f (var 0)) (g (var 0)) e

  abbrev pub solve2 : (f g : Expr → Expr → Expr) → Same (f (var 0) (var 1)) (g (var 0) (var 1)) → (a b : R.Carrier) → value R (env a (a ∷ b ∷ [])) (f (var 0) (var 1)) ≡ value R (env a (a ∷ b ∷ [])) (g (var 0) (var 1))
  solve2 f g e a b = solve R (env a (a ∷ b ∷ [])) (f (var 0) (var 1)) (g (var 0) (var 1)) e

  abbrev pub solve3 : (f g : Expr → Expr → Expr → Expr) → Same (f (var 0) (var 1) (var 2)) (g (var 0) (var 1) (var 2)) → (a b c : R.Carrier) → value R (env a (a ∷ b ∷ c ∷ [])) (f (var 0) (var 1) (var 2)) ≡ value R (env a (a ∷ b ∷ c ∷ [])) (g (var 0) (var 1) (var 2))
  solve3 f g e a b c = solve R (env a (a ∷ b ∷ c ∷ [])) (f (var 0) (var 1) (var 2)) (g (var 0) (var 1) (var 2)) e

  abbrev pub solve4 : (f g : Expr → Expr → Expr → Expr → Expr) → Same (f (var 0) (var 1) (var 2) (var 3)) (g (var 0) (var 1) (var 2) (var 3)) → (a b c d : R.Carrier) → value R (env a (a ∷ b ∷ c ∷ d ∷ [])) (f (var 0) (var 1) (var 2) (var 3)) ≡ value R (env a (a ∷ b ∷ c ∷ d ∷ [])) (g (var 0) (var 1) (var 2) (var 3))
  solve4 f g e a b c d = solve R (env a (a ∷ b ∷ c ∷ d ∷ [])) (f (var 0) (var 1) (var 2) (var 3)) (g (var 0) (var 1) (var 2) (var 3)) e

  -- a few equations, as a test
  cube : (a b : R.Carrier) → R.mul (R.mul (R.add a b) (R.add a b)) (R.add a b) ≡ R.add (R.add (R.mul a (R.mul a a)) (R.mul b (R.mul b b))) (R.mul (R.mul (R.add R.one (R.add R.one R.one)) (R.mul a b)) (R.add b a))
  cube a b = solve2 (λ a b. (a :+ b) :* (a :+ b) :* (a :+ b)) (λ a b. a :* (a :* a) :+ b :* (b :* b) :+ (:1 :+ (:1 :+ :1)) :* (a :* b) :* (b :+ a)) refl a b

  difference_of_squares : (a b : R.Carrier) → R.mul (R.add a (R.neg b)) (R.add a b) ≡ R.add (R.mul a a) (R.neg (R.mul b b))
  difference_of_squares a b = solve2 (λ a b. (a :- b) :* (a :+ b)) (λ a b. a :* a :- b :* b) refl a b

  cancelled : (a b c d : R.Carrier) → R.add (R.mul (R.add a (R.neg b)) (R.add c (R.neg d))) (R.neg (R.mul b d)) ≡ R.add (R.add (R.mul a c) (R.neg (R.mul b c))) (R.neg (R.mul a d))
  cancelled a b c d = solve4 (λ a b c d. (a :- b) :* (c :- d) :- b :* d) (λ a b c d. a :* c :- b :* c :- a :* d) refl a b c d
