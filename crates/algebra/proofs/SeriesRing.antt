-- The ring of series: the product by recursion on the place meets the laws.
use Rattle.std.specs.Prelude.{◌≡◌, ℕ, zero, suc, ◌-◌, [], ◌∷◌, refl}
use Rattle.std.proofs.Common.{arith, sym, ◌∙◌, ap, ap₂}
use mathlib.Core.Path.{fun_ext}
use Rattle.algebra.specs.Ring.{CommRing, RingLaws}
use Rattle.algebra.specs.Range.{total, adds}
use Rattle.algebra.specs.Series.{Series, tail, zeros, const, sum, scaled, product, series}
use Rattle.algebra.proofs.Basic.{add_zero, add_left_comm, zero_mul}
use Rattle.algebra.proofs.Ranges.{total_first, total_cong, add_laws}
use Rattle.algebra.specs.Expression.{◌:+◌, ◌:*◌, var}
use Rattle.algebra.proofs.Solver.{solve4, env, solve}

module _ (R : CommRing) where
  open R use {Carrier as C, ops as o, add as ◌+◌, mul as ◌*◌, neg as neg, zero as 𝟘, one as 𝟙}

  infixl 70 ◌+◌
  infixl 75 ◌*◌
  pub product_head : (f g : Series C) → product o f g zero ≡ f zero * g zero
  unfolding product
  product_head f g = refl

  pub product_tail : (f g : Series C) (n : ℕ) → product o f g (suc n) ≡ f zero * g (suc n) + product o (tail f) g n
  unfolding product
  product_tail f g n = refl

  pub product_zeros : (g : Series C) (n : ℕ) → product o (zeros o) g n ≡ 𝟘
  unfolding product
  product_zeros g zero = zero_mul R (g zero)
  product_zeros g (suc n) = ap₂ (λ y z. y + z) (zero_mul R (g (suc n))) (product_zeros g n) ∙ R.zero_add 𝟘

  pub product-sum : (f h g : Series C) (n : ℕ) → product o (sum o f h) g n ≡ product o f g n + product o h g n
  unfolding product
  product-sum f h g zero = R.add_mul (f zero) (h zero) (g zero)
  product-sum f h g (suc n) = ap (λ z. (f zero + h zero) * g (suc n) + z) (product-sum (tail f) (tail h) g n) ∙ solve R (env 𝟘 (f zero ∷ h zero ∷ g (suc n) ∷ product o (tail f) g n ∷ product o (tail h) g n ∷ [])) ((var 0 :+ var 1) :* var 2 :+ (var 3 :+ var 4)) (var 0 :* var 2 :+ var 3 :+ (var 1 :* var 2 :+ var 4)) refl

  pub product-scaled : (a : C) (f g : Series C) (n : ℕ) → product o (scaled o a f) g n ≡ a * product o f g n
  unfolding product
  product-scaled a f g zero = R.mul_assoc a (f zero) (g zero)
  product-scaled a f g (suc n) = ap (λ z. a * f zero * g (suc n) + z) (product-scaled a (tail f) g n) ∙ solve4 R (λ a b c d. a :* b :* c :+ a :* d) (λ a b c d. a :* (b :* c :+ d)) refl a (f zero) (g (suc n)) (product o (tail f) g n)

  pub product-const : (a : C) (f : Series C) (n : ℕ) → product o (const o a) f n ≡ a * f n
  unfolding product
  product-const a f zero = refl
  product-const a f (suc n) = ap (λ z. a * f (suc n) + z) (product_zeros f n) ∙ add_zero R (a * f (suc n))

  -- the recursion on the second factor
  pub product_back : (f g : Series C) (n : ℕ) → product o f g (suc n) ≡ g zero * f (suc n) + product o f (tail g) n
  unfolding product
  product_back f g zero = solve4 R (λ a b c d. a :* b :+ c :* d) (λ a b c d. d :* c :+ a :* b) refl (f 0) (g 1) (f 1) (g 0)
  product_back f g (suc n) = ap (λ z. f zero * g (suc (suc n)) + z) (product_back (tail f) g n) ∙ add_left_comm R (f zero * g (suc (suc n))) (g zero * f (suc (suc n))) (product o (tail f) (tail g) n)

  pub product_comm : (f g : Series C) (n : ℕ) → product o f g n ≡ product o g f n
  unfolding product
  product_comm f g zero = R.mul_comm (f zero) (g zero)
  product_comm f g (suc n) = ap (λ z. f zero * g (suc n) + z) (product_comm (tail f) g n) ∙ sym (product_back g f n)

  pub product_assoc : (f g h : Series C) (n : ℕ) → product o (product o f g) h n ≡ product o f (product o g h) n
  unfolding product
  product_assoc f g h zero = R.mul_assoc (f zero) (g zero) (h zero)
  product_assoc f g h (suc n) = ap (λ z. f zero * g zero * h (suc n) + z) (product-sum (scaled o (f zero) (tail g)) (product o (tail f) g) h n ∙ ap₂ (λ y z. y + z) (product-scaled (f zero) (tail g) h n) (product_assoc (tail f) g h n)) ∙ solve R (env 𝟘 (f zero ∷ g zero ∷ h (suc n) ∷ product o (tail g) h n ∷ product o (tail f) (product o g h) n ∷ [])) (var 0 :* var 1 :* var 2 :+ (var 0 :* var 3 :+ var 4)) (var 0 :* (var 1 :* var 2 :+ var 3) :+ var 4) refl

  -- each coefficient of a product is the sum of f j g (n - j) over j from 0 to n
  pub product_is : (f g : Series C) (n : ℕ) → product o f g n ≡ total (adds o) (suc n) (λ j. f j * g (n - j))
  product_is f g zero = product_head f g ∙ sym (R.zero_add (f zero * g zero))
  product_is f g (suc n) = product_tail f g n ∙ ap (λ z. f zero * g (suc n) + z) (product_is (tail f) g n ∙ total_cong (adds o) (add_laws R) (suc n) (λ j. f (suc j) * g (n - j)) (λ j. f (suc j) * g (suc n - suc j)) (λ j l. ap (λ i. f (suc j) * g i) (down j))) ∙ ap (λ i. f zero * g i + total (adds o) (suc n) (λ j. f (suc j) * g (suc n - suc j))) whole ∙ sym (total_first (adds o) (add_laws R) (suc n) (λ j. f j * g (suc n - j)))
    where
      whole : suc n ≡ suc n - 0
      whole = omega arith

      down : (j : ℕ) → n - j ≡ suc n - suc j
      down j = omega arith

  pub series_laws : RingLaws (series o)
  series_laws = record {
    add_assoc = λ f g h. fun_ext (λ n. R.add_assoc (f n) (g n) (h n));
    add_comm = λ f g. fun_ext (λ n. R.add_comm (f n) (g n));
    zero_add = λ f. fun_ext (λ n. R.zero_add (f n));
    neg_add = λ f. fun_ext (λ n. R.neg_add (f n));
    mul_assoc = λ f g h. fun_ext (product_assoc f g h);
    mul_comm = λ f g. fun_ext (product_comm f g);
    one_mul = λ f. fun_ext (λ n. product-const 𝟙 f n ∙ R.one_mul (f n));
    add_mul = λ f g h. fun_ext (product-sum f g h);
  }

  abbrev pub series_ring : CommRing
  series_ring = record { Carrier = Series C; ops = series o; laws = series_laws }
