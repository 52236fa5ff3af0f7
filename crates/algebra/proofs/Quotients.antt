-- The polynomials modulo a monic list g: lists of the degree's length are a ring, and the remainder is a map onto it.
use Rattle.std.specs.Prelude.{◌≡◌, ℕ, zero, suc, ◌+◌ as ◌+ₙ◌, Bool, eqb, IsTrue, List, [], ◌∷◌, length, refl}
use Rattle.std.proofs.Common.{arith, sym, ◌∙◌, ap, ap₂, eq-eqb, eqb-true}
use Rattle.std.proofs.lemmas.List.{length-map}
use mathlib.Core.Path.{fun_ext}
use Rattle.algebra.specs.Ring.{CommRing, HeldLaws}
use Rattle.algebra.specs.Series.{Series, zeros, sum, product, negated as turned, scaled as multiple, Below}
use Rattle.algebra.specs.Poly.{coeff, SameCoeffs, plus, negated, scaled, times, degree_of, IsMonic, reduced, remainder, quotient_digits, modulo}
use Rattle.algebra.proofs.Basic.{mul_add, add_zero}
use Rattle.algebra.proofs.Held.{held_ring, same_held}
use Rattle.algebra.proofs.SeriesRing.{series_ring, product_comm, product_assoc, product-sum, product-scaled, product-const}
use Rattle.algebra.proofs.Degrees.{Below-sum, Below-negated, Below-scaled, Below-more, Below-product, Below-zeros}
use Rattle.algebra.proofs.Lists.{same_list, Below-coeff, length-plus, coeff-cons, coeff-plus, coeff-negated, coeff-scaled, coeff-times}
use Rattle.algebra.proofs.Dividing.{length-remainder, coeff-none, divides, remainder_of}
use Rattle.algebra.specs.Expression.{◌:+◌, ◌:*◌, minus, :0, var}
use Rattle.algebra.proofs.Solver.{env, solve}

module _ (R : CommRing) (g : List R.Carrier) (M : IsMonic R.ops g) where
  open R use {Carrier as C, ops as o, add as ◌+◌, mul as ◌*◌, neg as neg, zero as 𝟘, one as 𝟙}

  infixl 70 ◌+◌
  infixl 75 ◌*◌
  abbrev rem : List C → List C
  rem f = remainder o g f

  -- the quotient as a series, with its bound, and what is left
  abbrev q : List C → Series C
  q f = coeff o (quotient_digits o g f)

  bound : (f : List C) → Below o (length (quotient_digits o g f)) (q f)
  bound f = Below-coeff o (quotient_digits o g f)

  whole : (f : List C) → (series_ring R).add ((series_ring R).mul (q f) (coeff o g)) (coeff o (rem f)) ≡ coeff o f
  whole f = fun_ext (divides R g M f).sum_is

  -- remainders depend on the coefficients alone
  pub remainder_same : (f h : List C) → SameCoeffs o f h → remainder o g f ≡ remainder o g h
  remainder_same f h s = remainder_of R g M h (rem f) (length (quotient_digits o g f)) (q f) (bound f) (length-remainder o g f) (λ i. (divides R g M f).sum_is i ∙ s i)

  -- what is small already is its own remainder
  pub remainder_small : (f : List C) → length f ≡ degree_of o g → remainder o g f ≡ f
  remainder_small f e = sym (remainder_of R g M f f 0 (zeros o) (Below-zeros R 0) e (λ i. ap (λ h. h i) (solve (series_ring R) (env (coeff o g) (coeff o g ∷ coeff o f ∷ [])) (:0 :* var 0 :+ var 1) (var 1) refl)))

  pub remainder-plus : (f h : List C) → remainder o g (plus o f h) ≡ plus o (remainder o g f) (remainder o g h)
  remainder-plus f h = sym (remainder_of R g M (plus o f h) (plus o (rem f) (rem h)) n (sum o (q f) (q h)) (Below-sum R n (q f) (q h) (Below-more R a n (q f) (omega arith) (bound f)) (Below-more R b n (q h) (omega arith) (bound h))) (omega (arith, length-plus o (rem f) (rem h), length-remainder o g f, length-remainder o g h)) (λ i. ap (λ z. product o (sum o (q f) (q h)) (coeff o g) i + z) (coeff-plus R (rem f) (rem h) i) ∙ ap (λ s. s i) sums ∙ sym (coeff-plus R f h i)))
    where
      a : ℕ
      a = length (quotient_digits o g f)

      b : ℕ
      b = length (quotient_digits o g h)

      n : ℕ
      n = a +ₙ b

      sums : (series_ring R).add ((series_ring R).mul ((series_ring R).add (q f) (q h)) (coeff o g)) ((series_ring R).add (coeff o (rem f)) (coeff o (rem h))) ≡ (series_ring R).add (coeff o f) (coeff o h)
      sums = solve (series_ring R) (env (q f) (q f ∷ q h ∷ coeff o g ∷ coeff o (rem f) ∷ coeff o (rem h) ∷ [])) ((var 0 :+ var 1) :* var 2 :+ (var 3 :+ var 4)) (var 0 :* var 2 :+ var 3 :+ (var 1 :* var 2 :+ var 4)) refl ∙ ap₂ (series_ring R).add (whole f) (whole h)

  pub remainder-negated : (f : List C) → remainder o g (negated o f) ≡ negated o (remainder o g f)
  remainder-negated f = sym (remainder_of R g M (negated o f) (negated o (rem f)) n (turned o (q f)) (Below-negated R n (q f) (bound f)) (length-map (rem f) neg ∙ length-remainder o g f) (λ i. ap (λ z. product o (turned o (q f)) (coeff o g) i + z) (coeff-negated R (rem f) i) ∙ ap (λ s. s i) (solve (series_ring R) (env (q f) (q f ∷ coeff o g ∷ coeff o (rem f) ∷ [])) (minus (var 0) :* var 1 :+ minus (var 2)) (minus (var 0 :* var 1 :+ var 2)) refl ∙ ap (series_ring R).neg (whole f)) ∙ sym (coeff-negated R f i)))
    where
      n : ℕ
      n = length (quotient_digits o g f)

  pub remainder-scaled : (a : C) (f : List C) → remainder o g (scaled o a f) ≡ scaled o a (remainder o g f)
  remainder-scaled a f = sym (remainder_of R g M (scaled o a f) (scaled o a (rem f)) n (multiple o a (q f)) (Below-scaled R n a (q f) (bound f)) (length-map (rem f) (o.mul a) ∙ length-remainder o g f) (λ i. ap₂ (λ y z. y + z) (product-scaled R a (q f) (coeff o g) i) (coeff-scaled R a (rem f) i) ∙ sym (mul_add R a (product o (q f) (coeff o g) i) (coeff o (rem f) i)) ∙ ap (λ z. a * z) ((divides R g M f).sum_is i) ∙ sym (coeff-scaled R a f i)))
    where
      n : ℕ
      n = length (quotient_digits o g f)

  -- a factor may be reduced first
  pub remainder-times : (f h : List C) → remainder o g (times o (remainder o g f) h) ≡ remainder o g (times o f h)
  remainder-times f h = remainder_of R g M (times o f h) (rem p) n (sum o (product o (q f) (coeff o h)) (q p)) (Below-sum R n (product o (q f) (coeff o h)) (q p) (Below-more R (a +ₙ length h) n (product o (q f) (coeff o h)) (omega arith) (Below-product R a (length h) (q f) (coeff o h) (bound f) (Below-coeff o h))) (Below-more R b n (q p) (omega arith) (bound p))) (length-remainder o g p) (λ i. ap (λ s. s i) products ∙ sym (coeff-times R f h i))
    where
      p : List C
      p = times o (rem f) h

      a : ℕ
      a = length (quotient_digits o g f)

      b : ℕ
      b = length (quotient_digits o g p)

      n : ℕ
      n = a +ₙ length h +ₙ b

      products : (series_ring R).add ((series_ring R).mul ((series_ring R).add ((series_ring R).mul (q f) (coeff o h)) (q p)) (coeff o g)) (coeff o (rem p)) ≡ (series_ring R).mul (coeff o f) (coeff o h)
      products = solve (series_ring R) (env (q f) (q f ∷ coeff o h ∷ q p ∷ coeff o g ∷ coeff o (rem p) ∷ [])) ((var 0 :* var 1 :+ var 2) :* var 3 :+ var 4) (var 0 :* var 3 :* var 1 :+ (var 2 :* var 3 :+ var 4)) refl ∙ ap (λ z. (series_ring R).add ((series_ring R).mul ((series_ring R).mul (q f) (coeff o g)) (coeff o h)) z) (whole p ∙ fun_ext (coeff-times R (rem f) h)) ∙ solve (series_ring R) (env (q f) (q f ∷ coeff o g ∷ coeff o h ∷ coeff o (rem f) ∷ [])) (var 0 :* var 1 :* var 2 :+ var 3 :* var 2) ((var 0 :* var 1 :+ var 3) :* var 2) refl ∙ ap (λ z. (series_ring R).mul z (coeff o h)) (whole f)

  pub same-times_comm : (f h : List C) → SameCoeffs o (times o f h) (times o h f)
  same-times_comm f h i = coeff-times R f h i ∙ product_comm R (coeff o f) (coeff o h) i ∙ sym (coeff-times R h f i)

  pub same-times_assoc : (f h k : List C) → SameCoeffs o (times o (times o f h) k) (times o f (times o h k))
  same-times_assoc f h k i = coeff-times R (times o f h) k i ∙ ap (λ s. product o s (coeff o k) i) (fun_ext (coeff-times R f h)) ∙ product_assoc R (coeff o f) (coeff o h) (coeff o k) i ∙ ap (λ s. product o (coeff o f) s i) (sym (fun_ext (coeff-times R h k))) ∙ sym (coeff-times R f (times o h k) i)

  pub same-times-plus : (f h k : List C) → SameCoeffs o (times o (plus o f h) k) (plus o (times o f k) (times o h k))
  same-times-plus f h k i = coeff-times R (plus o f h) k i ∙ ap (λ s. product o s (coeff o k) i) (fun_ext (coeff-plus R f h)) ∙ product-sum R (coeff o f) (coeff o h) (coeff o k) i ∙ ap₂ (λ y z. y + z) (sym (coeff-times R f k i)) (sym (coeff-times R h k i)) ∙ sym (coeff-plus R (times o f k) (times o h k) i)

  pub same-times_one : (f : List C) → SameCoeffs o (times o (𝟙 ∷ []) f) f
  same-times_one f i = coeff-times R (𝟙 ∷ []) f i ∙ ap (λ s. product o s (coeff o f) i) (fun_ext (coeff-cons R 𝟙 [])) ∙ product-const R 𝟙 (coeff o f) i ∙ R.one_mul (coeff o f i)

  -- the remainder is a map of rings
  pub remainder-product : (f h : List C) → remainder o g (times o f h) ≡ (modulo o g).mul (remainder o g f) (remainder o g h)
  remainder-product f h = sym (remainder-times f h) ∙ remainder_same (times o (rem f) h) (times o h (rem f)) (same-times_comm (rem f) h) ∙ sym (remainder-times h (rem f)) ∙ remainder_same (times o (rem h) (rem f)) (times o (rem f) (rem h)) (same-times_comm (rem h) (rem f))

  one : (a b : C) → SameCoeffs o (a * b ∷ []) (times o (a ∷ []) (b ∷ []))
  unfolding times
  one a b zero = sym (add_zero R (a * b))
  one a b (suc i) = refl

  none : (i : ℕ) → coeff o (rem []) i ≡ 𝟘
  unfolding remainder
  none i = coeff-none R (degree_of o g) i

  -- the lists of the degree's length
  abbrev pub is_row : List C → Bool
  is_row f = eqb (length f) (degree_of o g)

  pub row_long : (f : List C) → IsTrue (is_row f) → length f ≡ degree_of o g
  row_long f h = eqb-true (length f) (degree_of o g) h

  pub long_row : (f : List C) → length f ≡ degree_of o g → IsTrue (is_row f)
  long_row f e = eq-eqb (length f) (degree_of o g) e

  pub quotient_laws : HeldLaws is_row (modulo o g)
  quotient_laws = record {
    zero_held = long_row (rem []) (length-remainder o g []);
    one_held = long_row (rem (𝟙 ∷ [])) (length-remainder o g (𝟙 ∷ []));
    add_held = λ a b h k. long_row (plus o a b) (long a b h k);
    mul_held = λ a b h k. long_row (rem (times o a b)) (length-remainder o g (times o a b));
    neg_held = λ a h. long_row (negated o a) (length-map a neg ∙ row_long a h);
    add_assoc = λ a b c h k l. same_list o (plus o (plus o a b) c) (plus o a (plus o b c)) (omega (arith, length-plus o (plus o a b) c, length-plus o a b, length-plus o a (plus o b c), length-plus o b c)) (sum_assoc a b c);
    add_comm = λ a b h k. same_list o (plus o a b) (plus o b a) (omega (arith, length-plus o a b, length-plus o b a)) (λ i. coeff-plus R a b i ∙ R.add_comm (coeff o a i) (coeff o b i) ∙ sym (coeff-plus R b a i));
    zero_add = λ a h. same_list o (plus o (rem []) a) a (omega (arith, length-plus o (rem []) a, length-remainder o g [], row_long a h)) (λ i. coeff-plus R (rem []) a i ∙ ap (λ z. z + coeff o a i) (none i) ∙ R.zero_add (coeff o a i));
    neg_add = λ a h. same_list o (plus o (negated o a) a) (rem []) (omega (arith, length-plus o (negated o a) a, length-map a neg, length-remainder o g [], row_long a h)) (λ i. coeff-plus R (negated o a) a i ∙ ap (λ z. z + coeff o a i) (coeff-negated R a i) ∙ R.neg_add (coeff o a i) ∙ sym (none i));
    mul_assoc = λ a b c h k l. remainder-times (times o a b) c ∙ remainder_same (times o (times o a b) c) (times o a (times o b c)) (same-times_assoc a b c) ∙ second a (times o b c);
    mul_comm = λ a b h k. remainder_same (times o a b) (times o b a) (same-times_comm a b);
    one_mul = λ a h. remainder-times (𝟙 ∷ []) a ∙ remainder_same (times o (𝟙 ∷ []) a) a (same-times_one a) ∙ remainder_small a (row_long a h);
    add_mul = λ a b c h k l. remainder_same (times o (plus o a b) c) (plus o (times o a c) (times o b c)) (same-times-plus a b c) ∙ remainder-plus (times o a c) (times o b c);
  }
    where
      long : (a b : List C) → IsTrue (is_row a) → IsTrue (is_row b) → length (plus o a b) ≡ degree_of o g
      long a b h k = omega (arith, length-plus o a b, row_long a h, row_long b k)

      sum_assoc : (a b c : List C) (i : ℕ) → coeff o (plus o (plus o a b) c) i ≡ coeff o (plus o a (plus o b c)) i
      sum_assoc a b c i = coeff-plus R (plus o a b) c i ∙ ap (λ z. z + coeff o c i) (coeff-plus R a b i) ∙ R.add_assoc (coeff o a i) (coeff o b i) (coeff o c i) ∙ ap (λ z. coeff o a i + z) (sym (coeff-plus R b c i)) ∙ sym (coeff-plus R a (plus o b c) i)

      second : (f h : List C) → rem (times o f h) ≡ rem (times o f (rem h))
      second f h = remainder_same (times o f h) (times o h f) (same-times_comm f h) ∙ sym (remainder-times h f) ∙ remainder_same (times o (rem h) f) (times o f (rem h)) (same-times_comm (rem h) f)

  -- the quotient ring, and the map onto it
  abbrev pub quotient_ring : CommRing
  quotient_ring = held_ring quotient_laws

  abbrev pub reduce : List C → quotient_ring.Carrier
  reduce f = (remainder o g f, long_row (remainder o g f) (length-remainder o g f))

  pub reduce-plus : (f h : List C) → reduce (plus o f h) ≡ quotient_ring.add (reduce f) (reduce h)
  reduce-plus f h = same_held is_row (remainder-plus f h)

  pub reduce-times : (f h : List C) → reduce (times o f h) ≡ quotient_ring.mul (reduce f) (reduce h)
  reduce-times f h = same_held is_row (remainder-product f h)

  pub reduce-negated : (f : List C) → reduce (negated o f) ≡ quotient_ring.neg (reduce f)
  reduce-negated f = same_held is_row (remainder-negated f)

  -- each element is the remainder of itself
  pub reduce_same : (a : quotient_ring.Carrier) → reduce a.0 ≡ a
  reduce_same a = same_held is_row (remainder_small a.0 (row_long a.0 a.1))

  -- a multiple of g is 0
  pub remainder_multiple : (f : List C) → remainder o g (times o f g) ≡ remainder o g []
  remainder_multiple f = sym (remainder_of R g M (times o f g) (rem []) (length f) (coeff o f) (Below-coeff o f) (length-remainder o g []) (λ i. ap (λ z. product o (coeff o f) (coeff o g) i + z) (none i) ∙ add_zero R (product o (coeff o f) (coeff o g) i) ∙ sym (coeff-times R f g i)))

  -- the constants of the quotient ring
  abbrev pub number : C → List C
  number a = remainder o g (a ∷ [])

  pub number-add : (a b : C) → number (a + b) ≡ plus o (number a) (number b)
  number-add a b = remainder-plus (a ∷ []) (b ∷ [])

  pub number-neg : (a : C) → number (neg a) ≡ negated o (number a)
  number-neg a = remainder-negated (a ∷ [])

  pub number-mul : (a b : C) → number (a * b) ≡ (modulo o g).mul (number a) (number b)
  number-mul a b = remainder_same (a * b ∷ []) (times o (a ∷ []) (b ∷ [])) (one a b) ∙ remainder-product (a ∷ []) (b ∷ [])

  pub number_zero : number 𝟘 ≡ remainder o g []
  number_zero = remainder_same (𝟘 ∷ []) [] nothing
    where
      nothing : (i : ℕ) → coeff o (𝟘 ∷ []) i ≡ 𝟘
      nothing zero = refl
      nothing (suc i) = refl

  -- a product by Horner's rule: one coefficient of the first factor at a time, from the top
  pub product_step : (a : C) (f h : List C) → length h ≡ degree_of o g → (modulo o g).mul (a ∷ f) h ≡ plus o (scaled o a h) (reduced o g (𝟘 ∷ (modulo o g).mul f h))
  unfolding times remainder
  product_step a f h e = remainder-plus (scaled o a h) (𝟘 ∷ times o f h) ∙ ap (λ z. plus o z (reduced o g (𝟘 ∷ rem (times o f h)))) (remainder_small (scaled o a h) (length-map h (o.mul a) ∙ e))
