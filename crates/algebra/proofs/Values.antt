-- The values of lists of coefficients: evaluation is a map of rings, also from the polynomials modulo g at a zero of g.
use Rattle.std.specs.Prelude.{◌≡◌, ℕ, zero, suc, ◌+◌ as ◌+ₙ◌, ◌-◌ as ◌-ₙ◌, ◌<◌, List, [], ◌∷◌, ◌++◌, map, length, replicate, refl}
use Rattle.std.proofs.Common.{map-id, arith, sym, ◌∙◌, ap, ap₂}
use mathlib.Core.Path.{fun_ext}
use Rattle.algebra.specs.Ring.{CommRing}
use Rattle.algebra.specs.Hom.{Hom}
use Rattle.algebra.specs.Range.{total, adds}
use Rattle.algebra.specs.Power.{power}
use Rattle.algebra.specs.Series.{Series, product, Below}
use Rattle.algebra.specs.Poly.{coeff, SameCoeffs, value_at, plus, negated, scaled, times, monomial, at_power, IsMonic, remainder, quotient_digits}
use Rattle.algebra.proofs.Basic.{zero_mul, mul_zero, add_zero, neg_zero}
use Rattle.algebra.proofs.Homs.{id_hom, map_zero, map_neg}
use Rattle.algebra.proofs.Degrees.{Below-more}
use Rattle.algebra.proofs.Evaluate.{horner, horner_same, horner-sum, horner-product, horner_is}
use Rattle.algebra.proofs.Lists.{Below-coeff}
use Rattle.algebra.proofs.Dividing.{divides}
use Rattle.algebra.proofs.Held.{held_ring}
use Rattle.algebra.proofs.Quotients.{quotient_laws}
use Rattle.algebra.specs.Expression.{◌:+◌, ◌:*◌, minus, :0, :1, var}
use Rattle.algebra.proofs.Solver.{env, solve, solve2, solve3, solve4}

module _ (R S : CommRing) (F : Hom R S) (x : S.Carrier) where
  open R use {Carrier as C, ops as o}
  open S use {add as ◌+◌, mul as ◌*◌, neg as neg, zero as 𝟘, one as 𝟙}

  infixl 70 ◌+◌
  infixl 75 ◌*◌
  -- the value at x of a list whose coefficients are mapped
  abbrev pub value : List C → S.Carrier
  value f = value_at S.ops x (map F.map f)

  pub value_is : (f : List C) → value f ≡ horner R S F x (length f) (coeff o f)
  value_is [] = refl
  value_is (a ∷ f) = ap (λ z. F.map a + x * z) (value_is f)

  -- any bound serves
  pub value_bound : (f : List C) (n : ℕ) → Below o n (coeff o f) → value f ≡ horner R S F x n (coeff o f)
  value_bound f n b = value_is f ∙ horner_same R S F x (coeff o f) (length f) n (Below-coeff o f) b

  -- zeros at the end change nothing
  pub value_same : (f g : List C) → SameCoeffs o f g → value f ≡ value g
  value_same f g s = value_is f ∙ horner_same R S F x (coeff o f) (length f) n (Below-coeff o f) (Below-more R (length f) n (coeff o f) (omega arith) (Below-coeff o f)) ∙ ap (horner R S F x n) (fun_ext s) ∙ sym (value_bound g n (Below-more R (length g) n (coeff o g) (omega arith) (Below-coeff o g)))
    where
      n : ℕ
      n = length f +ₙ length g

  pub value-plus : (f g : List C) → value (plus o f g) ≡ value f + value g
  value-plus [] g = sym (S.zero_add (value g))
  value-plus (a ∷ f) [] = sym (add_zero S (value (a ∷ f)))
  value-plus (a ∷ f) (b ∷ g) = ap₂ (λ y z. y + x * z) (F.map_add a b) (value-plus f g) ∙ regroup (F.map a) (F.map b) x (value f) (value g)
    where
      regroup : (a b x v w : S.Carrier) → a + b + x * (v + w) ≡ a + x * v + (b + x * w)
      regroup a b x v w = solve S (env 𝟘 (a ∷ b ∷ x ∷ v ∷ w ∷ [])) (var 0 :+ var 1 :+ var 2 :* (var 3 :+ var 4)) (var 0 :+ var 2 :* var 3 :+ (var 1 :+ var 2 :* var 4)) refl

  pub value-scaled : (a : C) (f : List C) → value (scaled o a f) ≡ F.map a * value f
  value-scaled a [] = sym (mul_zero S (F.map a))
  value-scaled a (b ∷ f) = ap₂ (λ y z. y + x * z) (F.map_mul a b) (value-scaled a f) ∙ solve4 S (λ a b x v. a :* b :+ x :* (a :* v)) (λ a b x v. a :* (b :+ x :* v)) refl (F.map a) (F.map b) x (value f)

  pub value-negated : (f : List C) → value (negated o f) ≡ neg (value f)
  value-negated [] = sym (neg_zero S)
  value-negated (a ∷ f) = ap₂ (λ y z. y + x * z) (map_neg R S F a) (value-negated f) ∙ solve3 S (λ a x v. minus a :+ x :* minus v) (λ a x v. minus (a :+ x :* v)) refl (F.map a) x (value f)

  pub value-times : (f g : List C) → value (times o f g) ≡ value f * value g
  unfolding times
  value-times [] g = sym (zero_mul S (value g))
  value-times (a ∷ f) g = value-plus (scaled o a g) (R.zero ∷ times o f g) ∙ ap₂ (λ y z. y + z) (value-scaled a g) (ap₂ (λ y z. y + x * z) (map_zero R S F) (value-times f g)) ∙ solve4 S (λ a w x v. a :* w :+ (:0 :+ x :* (v :* w))) (λ a w x v. (a :+ x :* v) :* w) refl (F.map a) (value g) x (value f)

  pub value-shifted : (k : ℕ) (f : List C) → value (replicate k R.zero ++ f) ≡ power S.ops x k * value f
  value-shifted zero f = sym (S.one_mul (value f))
  value-shifted (suc k) f = ap₂ (λ y z. y + x * z) (map_zero R S F) (value-shifted k f) ∙ S.zero_add (x * (power S.ops x k * value f)) ∙ sym (S.mul_assoc x (power S.ops x k) (value f))

  pub value-monomial : (k : ℕ) → value (monomial o k) ≡ power S.ops x k
  value-monomial k = value-shifted k (R.one ∷ []) ∙ ap (λ z. power S.ops x k * (z + x * 𝟘)) F.map_one ∙ solve2 S (λ p x. p :* (:1 :+ x :* :0)) (λ p x. p) refl (power S.ops x k) x

  -- the remainder by g has the same value at a zero of g
  pub value-remainder : (g : List C) → IsMonic o g → value g ≡ 𝟘 → (f : List C) → value (remainder o g f) ≡ value f
  value-remainder g M e f = sym (value_bound f n (Below-more R (length f) n (coeff o f) (omega arith) (Below-coeff o f)) ∙ ap (horner R S F x n) (sym (fun_ext (divides R g M f).sum_is)) ∙ horner-sum R S F x n (product o q G) r ∙ ap₂ (λ y z. y + z) (horner-product R S F x (length (quotient_digits o g f)) (length g) n q G (Below-coeff o (quotient_digits o g f)) (Below-coeff o g) (omega arith) ∙ ap (λ z. horner R S F x (length (quotient_digits o g f)) q * z) (sym (value_is g) ∙ e)) (sym (value_bound (remainder o g f) n (Below-more R (length (remainder o g f)) n r (omega arith) (Below-coeff o (remainder o g f))))) ∙ solve2 S (λ a b. a :* :0 :+ b) (λ a b. b) refl (horner R S F x (length (quotient_digits o g f)) q) (value (remainder o g f)))
    where
      q : Series C
      q = coeff o (quotient_digits o g f)

      G : Series C
      G = coeff o g

      r : Series C
      r = coeff o (remainder o g f)

      n : ℕ
      n = length f +ₙ (length (quotient_digits o g f) +ₙ length g) +ₙ length (remainder o g f)

  -- evaluation at a zero of g, as a map of rings
  abbrev pub value_modulo : (g : List C) (M : IsMonic o g) → value g ≡ 𝟘 → Hom (held_ring (quotient_laws R g M)) S
  value_modulo g M e = record {
    map = λ a. value a.0;
    is = record {
      map_add = λ a b. value-plus a.0 b.0;
      map_mul = λ a b. value-remainder g M e (times o a.0 b.0) ∙ value-times a.0 b.0;
      map_one = value-remainder g M e (R.one ∷ []) ∙ value-monomial 0;
    };
  }

-- the value of f(X^k) at x is that of f at x^k
module _ (R S : CommRing) (F : Hom R S) (x : S.Carrier) (k : ℕ) (positive : 0 < k) where
  pub value-substituted : (f : List R.Carrier) → value R S F x (at_power R.ops k f) ≡ value R S F (power S.ops x k) f
  unfolding at_power
  value-substituted [] = refl
  value-substituted (a ∷ f) = ap (λ z. S.add (F.map a) (S.mul x z)) (value-shifted R S F x (k -ₙ 1) (at_power R.ops k f) ∙ ap (λ z. S.mul (power S.ops x (k -ₙ 1)) z) (value-substituted f)) ∙ ap (λ z. S.add (F.map a) z) (sym (S.mul_assoc x (power S.ops x (k -ₙ 1)) (value R S F (power S.ops x k) f)) ∙ ap (λ n. S.mul (power S.ops x n) (value R S F (power S.ops x k) f)) next)
    where
      next : suc (k -ₙ 1) ≡ k
      next = omega arith

-- values over the ring of the coefficients itself
module _ (R : CommRing) (x : R.Carrier) where
  open R use {Carrier as C, ops as o, add as ◌+◌, mul as ◌*◌, neg as neg, zero as 𝟘, one as 𝟙}

  infixl 70 ◌+◌
  infixl 75 ◌*◌
  own : (f : List C) → value R R (id_hom R) x f ≡ value_at o x f
  own f = ap (value_at o x) (map-id f)

  -- the value is the sum of the coefficients times powers
  pub value_at_is : (f : List C) → value_at o x f ≡ total (adds o) (length f) (λ i. coeff o f i * power o x i)
  value_at_is f = sym (own f) ∙ value_is R R (id_hom R) x f ∙ horner_is R R (id_hom R) x (length f) (coeff o f)

  pub value_at_same : (f g : List C) → SameCoeffs o f g → value_at o x f ≡ value_at o x g
  value_at_same f g s = sym (own f) ∙ value_same R R (id_hom R) x f g s ∙ own g

  pub value_at-plus : (f g : List C) → value_at o x (plus o f g) ≡ value_at o x f + value_at o x g
  value_at-plus f g = sym (own (plus o f g)) ∙ value-plus R R (id_hom R) x f g ∙ ap₂ (λ y z. y + z) (own f) (own g)

  pub value_at-scaled : (a : C) (f : List C) → value_at o x (scaled o a f) ≡ a * value_at o x f
  value_at-scaled a f = sym (own (scaled o a f)) ∙ value-scaled R R (id_hom R) x a f ∙ ap (λ z. a * z) (own f)

  pub value_at-negated : (f : List C) → value_at o x (negated o f) ≡ neg (value_at o x f)
  value_at-negated f = sym (own (negated o f)) ∙ value-negated R R (id_hom R) x f ∙ ap neg (own f)

  pub value_at-times : (f g : List C) → value_at o x (times o f g) ≡ value_at o x f * value_at o x g
  value_at-times f g = sym (own (times o f g)) ∙ value-times R R (id_hom R) x f g ∙ ap₂ (λ y z. y * z) (own f) (own g)

  pub value_at-monomial : (k : ℕ) → value_at o x (monomial o k) ≡ power o x k
  value_at-monomial k = sym (own (monomial o k)) ∙ value-monomial R R (id_hom R) x k

  pub value_at-remainder : (g : List C) → IsMonic o g → value_at o x g ≡ 𝟘 → (f : List C) → value_at o x (remainder o g f) ≡ value_at o x f
  value_at-remainder g M e f = sym (own (remainder o g f)) ∙ value-remainder R R (id_hom R) x g M (own g ∙ e) f ∙ own f

  pub value_at-at_power : (k : ℕ) → 0 < k → (f : List C) → value_at o x (at_power o k f) ≡ value_at o (power o x k) f
  value_at-at_power k p f = sym (own (at_power o k f)) ∙ value-substituted R R (id_hom R) x k p f ∙ ap (value_at o (power o x k)) (map-id f)
