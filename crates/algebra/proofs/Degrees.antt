-- Bounds of degrees, and division by a monic polynomial: it exists, and it is the only one.
use Rattle.std.specs.Prelude.{◌≡◌, ℕ, zero, suc, ◌+◌ as ◌+ₙ◌, ◌-◌ as ◌-ₙ◌, ◌<◌, ◌≤◌, ◌⊎◌, refl}
use Rattle.std.proofs.Common.{arith, sym, ◌∙◌, ap, ap₂, inl, inr, eq-or-lt_of_le}
use mathlib.Core.Path.{fun_ext}
use Rattle.algebra.specs.Ring.{CommRing}
use Rattle.algebra.specs.Series.{Series, tail, cons, zeros, const, sum, negated, scaled, product, Below, Monic, IsDivision}
use Rattle.algebra.proofs.Basic.{add_zero, add_neg, mul_one, mul_zero, neg_zero, add_cancel}
use Rattle.algebra.proofs.SeriesRing.{product_head, product_tail, product_zeros, product-sum}
use Rattle.algebra.specs.Expression.{◌:+◌, ◌:-◌, ◌:*◌, minus, :0}
use Rattle.algebra.proofs.Solver.{solve2, solve3, solve4}

module _ (R : CommRing) where
  open R use {Carrier as C, ops as o, add as ◌+◌, mul as ◌*◌, neg as neg, zero as 𝟘, one as 𝟙}

  infixl 70 ◌+◌
  infixl 75 ◌*◌
  pub Below-more : (m n : ℕ) (f : Series C) → m ≤ n → Below o m f → Below o n f
  Below-more m n f l b i k = b i (omega arith)

  pub Below-tail : (n : ℕ) (f : Series C) → Below o (suc n) f → Below o n (tail f)
  Below-tail n f b i k = b (suc i) (omega arith)

  pub Below-cons : (n : ℕ) (a : C) (f : Series C) → Below o n f → Below o (suc n) (cons a f)
  Below-cons n a f b zero k = absurd (omega arith)
  Below-cons n a f b (suc i) k = b i (omega arith)

  pub Below-zeros : (n : ℕ) → Below o n (zeros o)
  Below-zeros n i k = refl

  pub Below-zero : (f : Series C) → Below o zero f → f ≡ zeros o
  Below-zero f b = fun_ext (λ i. b i (omega arith))

  pub Below-const : (a : C) → Below o 1 (const o a)
  Below-const a = Below-cons 0 a (zeros o) (Below-zeros 0)

  pub Below-sum : (n : ℕ) (f g : Series C) → Below o n f → Below o n g → Below o n (sum o f g)
  Below-sum n f g b c i k = ap₂ (λ y z. y + z) (b i k) (c i k) ∙ R.zero_add 𝟘

  pub Below-scaled : (n : ℕ) (a : C) (f : Series C) → Below o n f → Below o n (scaled o a f)
  Below-scaled n a f b i k = ap (λ z. a * z) (b i k) ∙ mul_zero R a

  pub Below-negated : (n : ℕ) (f : Series C) → Below o n f → Below o n (negated o f)
  Below-negated n f b i k = ap neg (b i k) ∙ neg_zero R

  pub Below-product : (n m : ℕ) (f g : Series C) → Below o n f → Below o m g → Below o (n +ₙ m) (product o f g)
  Below-product zero m f g b c i k = ap (λ h. product o h g i) (Below-zero f b) ∙ product_zeros R g i
  Below-product (suc n) m f g b c zero k = absurd (omega arith)
  Below-product (suc n) m f g b c (suc i) k = product_tail R f g i ∙ ap₂ (λ y z. f zero * y + z) (c (suc i) (omega arith)) (Below-product n m (tail f) g (Below-tail n f b) c i (omega arith)) ∙ solve1' (f zero)
    where
      solve1' : (a : C) → a * 𝟘 + 𝟘 ≡ 𝟘
      solve1' a = add_zero R (a * 𝟘) ∙ mul_zero R a

  -- the product of two polynomials of degrees n and d has degree n + d
  pub product_top : (n d : ℕ) (f g : Series C) → Below o (suc n) f → Below o (suc d) g → product o f g (n +ₙ d) ≡ f n * g d
  product_top zero zero f g b c = product_head R f g
  product_top zero (suc d) f g b c = ap (product o f g) (none d) ∙ product_tail R f g d ∙ ap (λ h. f zero * g (suc d) + product o h g d) (Below-zero (tail f) (Below-tail 0 f b)) ∙ ap (λ z. f zero * g (suc d) + z) (product_zeros R g d) ∙ add_zero R (f zero * g (suc d))
    where
      none : (d : ℕ) → 0 +ₙ suc d ≡ suc d
      none d = omega arith
  product_top (suc n) d f g b c = ap (product o f g) (next n d) ∙ product_tail R f g (n +ₙ d) ∙ ap₂ (λ y z. f zero * y + z) (c (suc (n +ₙ d)) (omega arith)) (product_top n d (tail f) g (Below-tail (suc n) f b) c) ∙ solve2 R (λ a b. a :* :0 :+ b) (λ a b. b) refl (f zero) (f (suc n) * g d)
    where
      next : (n d : ℕ) → suc n +ₙ d ≡ suc (n +ₙ d)
      next n d = omega arith

  pub Below_sharp : (d e : ℕ) (f g : Series C) → Below o (suc d) f → Below o (suc e) g → Below o (suc (d +ₙ e)) (product o f g)
  Below_sharp zero e f g b c zero k = absurd (omega arith)
  Below_sharp zero e f g b c (suc i) k = product_tail R f g i ∙ ap₂ (λ y h. f zero * y + product o h g i) (c (suc i) (omega arith)) (Below-zero (tail f) (Below-tail 0 f b)) ∙ ap₂ (λ y z. y + z) (mul_zero R (f zero)) (product_zeros R g i) ∙ R.zero_add 𝟘
  Below_sharp (suc d) e f g b c zero k = absurd (omega arith)
  Below_sharp (suc d) e f g b c (suc i) k = product_tail R f g i ∙ ap₂ (λ y z. f zero * y + z) (c (suc i) (omega arith)) (Below_sharp d e (tail f) g (Below-tail (suc d) f b) c i (omega arith)) ∙ add_zero R (f zero * 𝟘) ∙ mul_zero R (f zero)

  pub Monic_product : (d e : ℕ) (f g : Series C) → Monic o d f → Monic o e g → Monic o (d +ₙ e) (product o f g)
  Monic_product d e f g a b = record { below = Below_sharp d e f g a.below b.below; top = product_top d e f g a.below b.below ∙ ap₂ (λ y z. y * z) a.top b.top ∙ R.one_mul 𝟙 }

  -- a polynomial of lower degree may be added
  pub Monic-sum : (d : ℕ) (f h : Series C) → Monic o d f → Below o d h → Monic o d (sum o f h)
  Monic-sum d f h m b = record { below = Below-sum (suc d) f h m.below (Below-more d (suc d) h (omega arith) b); top = ap₂ (λ y z. y + z) m.top (b d (omega arith)) ∙ add_zero R 𝟙 }

  pub Monic-one : Monic o 0 (const o 𝟙)
  Monic-one = record { below = Below-const 𝟙; top = refl }

  -- only 0 is a multiple of a monic polynomial with a lower degree
  pub multiple_below : (n d : ℕ) (g h : Series C) → Monic o d g → Below o n h → Below o d (product o h g) → h ≡ zeros o
  multiple_below zero d g h m b c = Below-zero h b
  multiple_below (suc n) d g h m b c = multiple_below n d g h m less c
    where
      at_top : h n ≡ 𝟘
      at_top = sym (mul_one R (h n)) ∙ ap (λ z. h n * z) (sym m.top) ∙ sym (product_top n d h g b m.below) ∙ c (n +ₙ d) (omega arith)

      at_or_above : (i : ℕ) → (n ≡ i) ⊎ (n < i) → h i ≡ 𝟘
      at_or_above i (inl e) = ap h (sym e) ∙ at_top
      at_or_above i (inr l) = b i l

      less : Below o n h
      less i k = at_or_above i (eq-or-lt_of_le k)

  -- division of 0
  pub division_zeros : (d : ℕ) (g : Series C) → IsDivision o d g (zeros o) (zeros o) (zeros o)
  division_zeros d g = record { small = Below-zeros d; sum_is = λ i. ap (λ z. z + 𝟘) (product_zeros R g i) ∙ R.zero_add 𝟘 }

  -- w less t g, where t is the coefficient of w at the degree of g
  abbrev pub reduced : ℕ → Series C → Series C → Series C
  reduced d g w i = w i + neg (w d) * g i

  -- one step of the long division: that of f from that of f without its constant coefficient
  pub division_step : (d : ℕ) (g f q r : Series C) → Monic o d g → IsDivision o d g (tail f) q r → IsDivision o d g f (cons (cons (f zero) r d) q) (reduced d g (cons (f zero) r))
  division_step d g f q r m D = record { small = small; sum_is = sum_is }
    where
      w : Series C
      w = cons (f zero) r

      small : Below o d (reduced d g w)
      small i k = go i (eq-or-lt_of_le k)
        where
          go : (i : ℕ) → (d ≡ i) ⊎ (d < i) → w i + neg (w d) * g i ≡ 𝟘
          go i (inl e) = ap (λ j. w j + neg (w d) * g j) (sym e) ∙ ap (λ z. w d + neg (w d) * z) m.top ∙ solve1' (w d)
            where
              solve1' : (a : C) → a + neg a * 𝟙 ≡ 𝟘
              solve1' a = ap (λ z. a + z) (mul_one R (neg a)) ∙ add_neg R a
          go i (inr l) = ap₂ (λ y z. y + neg (w d) * z) (Below-cons d (f zero) r D.small i l) (m.below i l) ∙ R.zero_add (neg (w d) * 𝟘) ∙ mul_zero R (neg (w d))

      sum_is : (i : ℕ) → product o (cons (w d) q) g i + reduced d g w i ≡ f i
      sum_is zero = ap (λ z. z + reduced d g w zero) (product_head R (cons (w d) q) g) ∙ solve3 R (λ t a b. t :* b :+ (a :+ minus t :* b)) (λ t a b. a) refl (w d) (f zero) (g zero)
      sum_is (suc i) = ap (λ z. z + reduced d g w (suc i)) (product_tail R (cons (w d) q) g i) ∙ solve4 R (λ t b p r. t :* b :+ p :+ (r :+ minus t :* b)) (λ t b p r. p :+ r) refl (w d) (g (suc i)) (product o q g i) (r i) ∙ D.sum_is i

  pub record Division (d n : ℕ) (g f : Series C) : Type 0 where
    pub quotient : Series C
    pub remainder : Series C
    pub bounded : Below o n quotient
    pub is : IsDivision o d g f quotient remainder

  -- division by a monic polynomial exists
  pub divide : (d n : ℕ) (g f : Series C) → Monic o d g → Below o n f → Division d n g f
  divide d zero g f m b = record { quotient = zeros o; remainder = zeros o; bounded = Below-zeros 0; is = at f (Below-zero f b) }
    where
      at : (f : Series C) → f ≡ zeros o → IsDivision o d g f (zeros o) (zeros o)
      at f e = rw e (division_zeros d g)
  divide d (suc n) g f m b = go (divide d n g (tail f) m (Below-tail n f b))
    where
      go : Division d n g (tail f) → Division d (suc n) g f
      go D = record { quotient = cons (cons (f zero) D.remainder d) D.quotient; remainder = reduced d g (cons (f zero) D.remainder); bounded = Below-cons n (cons (f zero) D.remainder d) D.quotient D.bounded; is = division_step d g f D.quotient D.remainder m D.is }

  -- and is the only one
  pub quotient_only : (d n : ℕ) (g f q r q' r' : Series C) → Monic o d g → Below o n q → Below o n q' → IsDivision o d g f q r → IsDivision o d g f q' r' → q ≡ q'
  quotient_only d n g f q r q' r' m b b' D D' = fun_ext (λ i. add_cancel R (neg (q' i)) (q i) (q' i) (R.add_comm (neg (q' i)) (q i) ∙ ap (λ h. h i) zero ∙ sym (R.neg_add (q' i))))
    where
      h : Series C
      h = sum o q (negated o q')

      negated-product : (i : ℕ) → product o (negated o q') g i ≡ neg (product o q' g i)
      negated-product i = add_cancel R (product o q' g i) (product o (negated o q') g i) (neg (product o q' g i)) (sym (product-sum R q' (negated o q') g i) ∙ ap (λ z. product o z g i) (fun_ext (λ j. add_neg R (q' j))) ∙ product_zeros R g i ∙ sym (add_neg R (product o q' g i)))

      -- the multiple of g is the difference of the remainders
      small : Below o d (product o h g)
      small i k = product-sum R q (negated o q') g i ∙ ap (λ z. product o q g i + z) (negated-product i) ∙ solve4 R (λ p p' r r'. p :- p') (λ p p' r r'. p :+ r :- (p' :+ r') :+ (r' :- r)) refl (product o q g i) (product o q' g i) (r i) (r' i) ∙ ap₂ (λ y z. y + neg z + (r' i + neg (r i))) (D.sum_is i) (D'.sum_is i) ∙ ap₂ (λ y z. f i + neg (f i) + (y + neg z)) (D'.small i k) (D.small i k) ∙ solve1' (f i)
        where
          solve1' : (a : C) → a + neg a + (𝟘 + neg 𝟘) ≡ 𝟘
          solve1' a = ap₂ (λ y z. y + z) (add_neg R a) (add_neg R 𝟘) ∙ R.zero_add 𝟘

      zero : h ≡ zeros o
      zero = multiple_below n d g h m (Below-sum n q (negated o q') b (Below-negated n q' b')) small

  -- the remainder is what the quotient leaves
  pub remainder_only : (d : ℕ) (g f q r r' : Series C) → IsDivision o d g f q r → IsDivision o d g f q r' → r ≡ r'
  remainder_only d g f q r r' D D' = fun_ext (λ i. add_cancel R (product o q g i) (r i) (r' i) (D.sum_is i ∙ sym (D'.sum_is i)))

  -- a quotient has no coefficient at n - d or above, where n bounds the dividend
  pub quotient_below : (d n m : ℕ) (g f q r : Series C) → Monic o d g → Below o n f → Below o m q → IsDivision o d g f q r → Below o (n -ₙ d) q
  quotient_below d n zero g f q r M b c D i k = c i (omega arith)
  quotient_below d n (suc m) g f q r M b c D i k = go (quotient_below d n m g f q r M b) (cases_le n (m +ₙ d))
    where
      cases_le : (a b : ℕ) → (a ≤ b) ⊎ (b < a)
      cases_le a b = grind arith

      top : n ≤ m +ₙ d → q m ≡ 𝟘
      top l = sym (mul_one R (q m)) ∙ ap (λ z. q m * z) (sym M.top) ∙ sym (product_top m d q g c M.below) ∙ sym (add_zero R (product o q g (m +ₙ d))) ∙ ap (λ z. product o q g (m +ₙ d) + z) (sym (D.small (m +ₙ d) (omega arith))) ∙ D.sum_is (m +ₙ d) ∙ b (m +ₙ d) l

      lower : n ≤ m +ₙ d → (j : ℕ) → (m ≡ j) ⊎ (m < j) → q j ≡ 𝟘
      lower l j (inl e) = ap q (sym e) ∙ top l
      lower l j (inr s) = c j s

      go : (Below o m q → IsDivision o d g f q r → Below o (n -ₙ d) q) → (n ≤ m +ₙ d) ⊎ (m +ₙ d < n) → q i ≡ 𝟘
      go s (inl l) = s (λ j t. lower l j (eq-or-lt_of_le t)) D i k
      go s (inr l) = c i (omega arith)
