-- Products with X^k, and the substitution of X^k for X, which is a map of rings.
use Rattle.std.specs.Prelude.{◌≡◌, ℕ, zero, suc, ◌+◌ as ◌+ₙ◌, ◌-◌ as ◌-ₙ◌, ◌*◌ as ◌*ₙ◌, ◌/◌, ◌%◌, ◌<◌, ◌≤◌, ◌⊎◌, Bool, true, false, eqb, cond, refl}
use Rattle.std.proofs.Common.{arith, sym, ◌∙◌, ap, ap₂, inl, inr, mod-eq_of_lt, mod-lt, mul-le-mul, le_refl, subst, eqb-true}
use Rattle.std.proofs.lemmas.Nat.{div-mul-add}
use Rattle.std.proofs.Math.Nat.{add-mod_left, add-div_left, div-add-mod, mul-mod_right}
use Rattle.std.proofs.lemmas.Bool.{cases_lt}
use mathlib.Core.Path.{fun_ext}
use mathlib.Core.Logic.{∥∥₁_map, ∥∥₁_elim}
use Rattle.algebra.specs.Ring.{CommRing}
use Rattle.algebra.specs.Hom.{Hom}
use Rattle.algebra.specs.Power.{power}
use Rattle.algebra.specs.Series.{Series, tail, cons, zeros, const, sum, scaled, product, shifted, spread, Below, Monic}
use Rattle.algebra.proofs.Basic.{mul_zero, zero_mul, add_zero}
use Rattle.algebra.proofs.SeriesRing.{product_head, product_tail, product-sum, product-const, series_ring}
use Rattle.algebra.proofs.Polynomials.{Poly, poly_ring, X, same}
use Rattle.algebra.proofs.Degrees.{Below-const}
use Rattle.algebra.proofs.Evaluate.{horner, horner_more, horner-sum, horner_const, value_at, value_at_is}
use Rattle.algebra.proofs.Homs.{map_zero}

module _ (R : CommRing) where
  open R use {Carrier as C, ops as o, add as ◌+◌, mul as ◌*◌, neg as neg, zero as 𝟘, one as 𝟙}

  infixl 70 ◌+◌
  infixl 75 ◌*◌
  pub shifted_low : (k : ℕ) (f : Series C) (i : ℕ) → i < k → shifted o k f i ≡ 𝟘
  shifted_low zero f i l = absurd (omega arith)
  shifted_low (suc k) f zero l = refl
  shifted_low (suc k) f (suc i) l = shifted_low k f i (omega arith)

  pub shifted_high : (k : ℕ) (f : Series C) (i : ℕ) → shifted o k f (k +ₙ i) ≡ f i
  shifted_high zero f i = let e : 0 +ₙ i ≡ i = omega arith in ap f e
  shifted_high (suc k) f i = let e : suc k +ₙ i ≡ suc (k +ₙ i) = omega arith in ap (shifted o (suc k) f) e ∙ shifted_high k f i

  pub shifted_cong : (k : ℕ) (f g : Series C) → ((i : ℕ) → f i ≡ g i) → (i : ℕ) → shifted o k f i ≡ shifted o k g i
  shifted_cong zero f g h i = h i
  shifted_cong (suc k) f g h zero = refl
  shifted_cong (suc k) f g h (suc i) = shifted_cong k f g h i

  pub product-shifted : (k : ℕ) (f g : Series C) (i : ℕ) → product o (shifted o k f) g i ≡ shifted o k (product o f g) i
  product-shifted zero f g i = refl
  product-shifted (suc k) f g zero = product_head R (shifted o (suc k) f) g ∙ zero_mul R (g zero)
  product-shifted (suc k) f g (suc i) = product_tail R (shifted o (suc k) f) g i ∙ ap₂ (λ y z. y + z) (zero_mul R (g (suc i))) (product-shifted k f g i) ∙ R.zero_add (shifted o k (product o f g) i)

  -- X^k
  pub power-X : (k i : ℕ) → (power (poly_ring R).ops (X R) k).0 i ≡ shifted o k (const o 𝟙) i
  power-X zero i = refl
  power-X (suc k) i = product-shifted 1 (const o 𝟙) (power (poly_ring R).ops (X R) k).0 i ∙ shifted_cong 1 (product o (const o 𝟙) (power (poly_ring R).ops (X R) k).0) (shifted o k (const o 𝟙)) (λ j. product-const R 𝟙 (power (poly_ring R).ops (X R) k).0 j ∙ R.one_mul ((power (poly_ring R).ops (X R) k).0 j) ∙ power-X k j) i

  -- every place is below k, or k more than another
  by_place : (k : ℕ) (P : ℕ → Type 0) → ((i : ℕ) → i < k → P i) → ((i : ℕ) → P (k +ₙ i)) → (i : ℕ) → P i
  by_place k P low high i = go (cases_lt i k)
    where
      go : (i < k) ⊎ (k ≤ i) → P i
      go (inl l) = low i l
      go (inr l) = let e : k +ₙ (i -ₙ k) ≡ i = omega arith in rw e at (high (i -ₙ k))

  module _ (k : ℕ) (positive : 0 < k) where
    pub spread_at : (f : Series C) (j : ℕ) → spread o k f (k *ₙ j) ≡ f j
    spread_at f j = let e : k *ₙ j ≡ j *ₙ k +ₙ 0 = omega arith in ap₂ (λ r q. cond (eqb r 0) (f q) 𝟘) (mul-mod_right k j) (ap (λ z. z / k) e ∙ div-mul-add j k 0 positive)

    pub spread_other : (f : Series C) (i : ℕ) → (i % k ≡ 0 → ⊥) → spread o k f i ≡ 𝟘
    spread_other f i n = go (eqb (i % k) 0) refl
      where
        go : (b : Bool) → eqb (i % k) 0 ≡ b → cond b (f (i / k)) 𝟘 ≡ 𝟘
        go true e = absurd (n (eqb-true (i % k) 0 e))
        go false e = refl

    spread_low : (f : Series C) (i : ℕ) → i < k → spread o k f i ≡ const o (f zero) i
    spread_low f zero l = let e : 0 ≡ k *ₙ 0 = omega arith in ap (spread o k f) e ∙ spread_at f 0
    spread_low f (suc i) l = spread_other f (suc i) (λ e. let d : suc i % k ≡ suc i = mod-eq_of_lt l in omega arith)

    spread_high : (f : Series C) (i : ℕ) → spread o k f (k +ₙ i) ≡ spread o k (tail f) i
    spread_high f i = let e : i / k +ₙ 1 ≡ suc (i / k) = omega arith in ap₂ (λ r q. cond (eqb r 0) (f q) 𝟘) (add-mod_left k i) (add-div_left i positive ∙ e)

    -- f(X^k) = f 0 + X^k f'(X^k), where f = f 0 + X f'
    pub spread_is : (f : Series C) (i : ℕ) → spread o k f i ≡ const o (f zero) i + shifted o k (spread o k (tail f)) i
    spread_is f = by_place k (λ i. spread o k f i ≡ const o (f zero) i + shifted o k (spread o k (tail f)) i) (λ i l. spread_low f i l ∙ sym (add_zero R (const o (f zero) i)) ∙ ap (λ z. const o (f zero) i + z) (sym (shifted_low k (spread o k (tail f)) i l))) (λ i. spread_high f i ∙ sym (R.zero_add (spread o k (tail f) i)) ∙ ap₂ (λ y z. y + z) (above k i positive) (sym (shifted_high k (spread o k (tail f)) i)))
      where
        above : (k i : ℕ) → 0 < k → 𝟘 ≡ const o (f zero) (k +ₙ i)
        above zero i l = absurd (omega arith)
        above (suc k) i l = let e : suc k +ₙ i ≡ suc (k +ₙ i) = omega arith in ap (const o (f zero)) (sym e)

    pub spread-sum : (f g : Series C) (i : ℕ) → spread o k (sum o f g) i ≡ spread o k f i + spread o k g i
    spread-sum f g i = go (eqb (i % k) 0)
      where
        go : (b : Bool) → cond b (f (i / k) + g (i / k)) 𝟘 ≡ cond b (f (i / k)) 𝟘 + cond b (g (i / k)) 𝟘
        go true = refl
        go false = sym (R.zero_add 𝟘)

    pub spread-scaled : (a : C) (f : Series C) (i : ℕ) → spread o k (scaled o a f) i ≡ a * spread o k f i
    spread-scaled a f i = go (eqb (i % k) 0)
      where
        go : (b : Bool) → cond b (a * f (i / k)) 𝟘 ≡ a * cond b (f (i / k)) 𝟘
        go true = refl
        go false = sym (mul_zero R a)

    pub spread-zeros : (i : ℕ) → spread o k (zeros o) i ≡ 𝟘
    spread-zeros i = go (eqb (i % k) 0)
      where
        go : (b : Bool) → cond b 𝟘 𝟘 ≡ 𝟘
        go true = refl
        go false = refl

    pub spread-const : (a : C) (i : ℕ) → spread o k (const o a) i ≡ const o a i
    spread-const a i = spread_is (const o a) i ∙ ap (λ z. const o a i + z) (shifted_cong k (spread o k (zeros o)) (zeros o) spread-zeros i ∙ none k i) ∙ add_zero R (const o a i)
      where
        none : (k i : ℕ) → shifted o k (zeros o) i ≡ 𝟘
        none zero i = refl
        none (suc k) zero = refl
        none (suc k) (suc i) = none k i

    -- both sides of the product law as a multiple of g(X^k) and what X^k multiplies
    left_is : (f g : Series C) (i : ℕ) → product o (spread o k f) (spread o k g) i ≡ f zero * spread o k g i + shifted o k (product o (spread o k (tail f)) (spread o k g)) i
    left_is f g i = ap (λ h. product o h (spread o k g) i) (fun_ext (spread_is f)) ∙ product-sum R (const o (f zero)) (shifted o k (spread o k (tail f))) (spread o k g) i ∙ ap₂ (λ y z. y + z) (product-const R (f zero) (spread o k g) i) (product-shifted k (spread o k (tail f)) (spread o k g) i)

    right_is : (f g : Series C) (i : ℕ) → spread o k (product o f g) i ≡ f zero * spread o k g i + shifted o k (spread o k (product o (tail f) g)) i
    right_is f g i = ap (λ h. spread o k h i) (fun_ext whole) ∙ spread-sum (scaled o (f zero) g) (cons 𝟘 (product o (tail f) g)) i ∙ ap₂ (λ y z. y + z) (spread-scaled (f zero) g i) (spread_is (cons 𝟘 (product o (tail f) g)) i ∙ ap (λ z. z + shifted o k (spread o k (product o (tail f) g)) i) (nothing i) ∙ R.zero_add (shifted o k (spread o k (product o (tail f) g)) i))
      where
        whole : (i : ℕ) → product o f g i ≡ f zero * g i + cons 𝟘 (product o (tail f) g) i
        whole zero = product_head R f g ∙ sym (add_zero R (f zero * g zero))
        whole (suc i) = product_tail R f g i

        nothing : (i : ℕ) → const o 𝟘 i ≡ 𝟘
        nothing zero = refl
        nothing (suc i) = refl

    by_fuel : (n : ℕ) (f g : Series C) (i : ℕ) → i < n → product o (spread o k f) (spread o k g) i ≡ spread o k (product o f g) i
    by_fuel zero f g i l = absurd (omega arith)
    by_fuel (suc n) f g i l = left_is f g i ∙ ap (λ z. f zero * spread o k g i + z) (go (by_fuel n) (cases_lt i k)) ∙ sym (right_is f g i)
      where
        left : Series C
        left = product o (spread o k (tail f)) (spread o k g)

        right : Series C
        right = spread o k (product o (tail f) g)

        go : ((f g : Series C) (i : ℕ) → i < n → product o (spread o k f) (spread o k g) i ≡ spread o k (product o f g) i) → (i < k) ⊎ (k ≤ i) → shifted o k left i ≡ shifted o k right i
        go r (inl m) = shifted_low k left i m ∙ sym (shifted_low k right i m)
        go r (inr m) = let e : i ≡ k +ₙ (i -ₙ k) = omega arith in ap (shifted o k left) e ∙ shifted_high k left (i -ₙ k) ∙ r (tail f) g (i -ₙ k) (omega arith) ∙ sym (shifted_high k right (i -ₙ k)) ∙ ap (shifted o k right) (sym e)

    pub spread-product : (f g : Series C) (i : ℕ) → spread o k (product o f g) i ≡ product o (spread o k f) (spread o k g) i
    spread-product f g i = sym (by_fuel (suc i) f g i (omega arith))

    pub Below-spread : (n : ℕ) (f : Series C) → Below o n f → Below o (n *ₙ k) (spread o k f)
    Below-spread n f b i l = go (eqb (i % k) 0) refl
      where
        -- a place from n k on has a quotient from n on
        quotient : (q r : ℕ) → r < k → n *ₙ k ≤ k *ₙ q +ₙ r → n ≤ q
        quotient q r s t = lower (cases_lt q n)
          where
            lower : (q < n) ⊎ (n ≤ q) → n ≤ q
            lower (inr u) = u
            lower (inl u) = absurd (omega (arith, mul-le-mul u (le_refl k)))

        go : (c : Bool) → eqb (i % k) 0 ≡ c → cond c (f (i / k)) 𝟘 ≡ 𝟘
        go true e = b (i / k) (quotient (i / k) (i % k) (mod-lt i positive) (subst (λ z. n *ₙ k ≤ z) (sym (div-add-mod i k)) l))
        go false e = refl

    pub Monic-spread : (d : ℕ) (f : Series C) → Monic o d f → Monic o (k *ₙ d) (spread o k f)
    Monic-spread d f m = record { below = λ i l. go i l (eqb (i % k) 0) refl; top = spread_at f d ∙ m.top }
      where
        above : (q r : ℕ) → r ≡ 0 → k *ₙ d < k *ₙ q +ₙ r → d < q
        above q r e l = case (cases_lt d q)
          where
            case : (d < q) ⊎ (q ≤ d) → d < q
            case (inl u) = u
            case (inr u) = absurd (omega (arith, mul-le-mul (le_refl k) u))

        go : (i : ℕ) → k *ₙ d < i → (c : Bool) → eqb (i % k) 0 ≡ c → cond c (f (i / k)) 𝟘 ≡ 𝟘
        go i l true e = m.below (i / k) (above (i / k) (i % k) (eqb-true (i % k) 0 e) (subst (λ z. k *ₙ d < z) (sym (div-add-mod i k)) l))
        go i l false e = refl

    -- substitution of X^k for X
    abbrev pub spread_hom : Hom (series_ring R) (series_ring R)
    spread_hom = record { map = spread o k; is = record { map_add = λ f g. fun_ext (spread-sum f g); map_mul = λ f g. fun_ext (spread-product f g); map_one = fun_ext (spread-const 𝟙) } }

    abbrev pub at_power : Hom (poly_ring R) (poly_ring R)
    at_power = record { map = λ p. (spread o k p.0, ∥∥₁_map p.1 (λ (n, b). (n *ₙ k, Below-spread n p.0 b))); is = record { map_add = λ p q. same o (spread_hom.map_add p.0 q.0); map_mul = λ p q. same o (spread_hom.map_mul p.0 q.0); map_one = same o spread_hom.map_one } }

    pub at_power-X : at_power.map (X R) ≡ power (poly_ring R).ops (X R) k
    at_power-X = same o (fun_ext (λ i. spread_is (X R).0 i ∙ ap₂ (λ y z. y + z) (nothing i) (shifted_cong k (spread o k (const o 𝟙)) (const o 𝟙) (spread-const 𝟙) i) ∙ R.zero_add (shifted o k (const o 𝟙) i) ∙ sym (power-X k i)))
      where
        nothing : (i : ℕ) → const o 𝟘 i ≡ 𝟘
        nothing zero = refl
        nothing (suc i) = refl

-- The value of f(X^k) at x is that of f at x^k.
module _ (R S : CommRing) (F : Hom R S) (x : S.Carrier) where
  open R use {Carrier as C, ops as o}
  open S use {add as ◌+◌, mul as ◌*◌, zero as 𝟘, one as 𝟙}

  infixl 70 ◌+◌
  infixl 75 ◌*◌
  pub horner-shifted : (k n : ℕ) (f : Series C) → horner R S F x (k +ₙ n) (shifted o k f) ≡ power S.ops x k * horner R S F x n f
  horner-shifted zero n f = let e : 0 +ₙ n ≡ n = omega arith in ap (λ m. horner R S F x m f) e ∙ sym (S.one_mul (horner R S F x n f))
  horner-shifted (suc k) n f = let e : suc k +ₙ n ≡ suc (k +ₙ n) = omega arith in ap (λ m. horner R S F x m (shifted o (suc k) f)) e ∙ ap₂ (λ y z. y + x * z) (map_zero R S F) (horner-shifted k n f) ∙ S.zero_add (x * (power S.ops x k * horner R S F x n f)) ∙ sym (S.mul_assoc x (power S.ops x k) (horner R S F x n f))

  module _ (k : ℕ) (positive : 0 < k) where
    pub horner-spread : (n : ℕ) (f : Series C) → horner R S F x (n *ₙ k) (spread o k f) ≡ horner R S F (power S.ops x k) n f
    horner-spread zero f = let e : 0 *ₙ k ≡ 0 = omega arith in ap (λ m. horner R S F x m (spread o k f)) e
    horner-spread (suc n) f = ap₂ (horner R S F x) (next n) (fun_ext (spread_is R k positive f)) ∙ horner-sum R S F x (k +ₙ n *ₙ k) (const o (f zero)) (shifted o k (spread o k (tail f))) ∙ ap₂ (λ y z. y + z) (horner_more R S F x 1 (k +ₙ n *ₙ k) (const o (f zero)) (Below-const R (f zero)) (omega arith) ∙ horner_const R S F x 0 (f zero)) (horner-shifted k (n *ₙ k) (spread o k (tail f)) ∙ ap (λ z. power S.ops x k * z) (horner-spread n (tail f)))
      where
        next : (n : ℕ) → suc n *ₙ k ≡ k +ₙ n *ₙ k
        next n = omega arith

    pub value-at_power : (is_set : IsSet S.Carrier) (p : Poly o) → value_at R S F x is_set ((at_power R k positive).map p) ≡ value_at R S F (power S.ops x k) is_set p
    value-at_power is_set p = ∥∥₁_elim p.1 (is_set (value_at R S F x is_set ((at_power R k positive).map p)) (value_at R S F (power S.ops x k) is_set p)) (λ (n, b). value_at_is R S F x is_set ((at_power R k positive).map p) (n *ₙ k) (Below-spread R k positive n p.0 b) ∙ horner-spread n p.0 ∙ sym (value_at_is R S F (power S.ops x k) is_set p n b))
