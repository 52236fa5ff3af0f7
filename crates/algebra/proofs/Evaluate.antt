-- The value of a polynomial, by Horner's rule, in any ring over that of its coefficients.
use Rattle.std.specs.Prelude.{◌≡◌, ℕ, zero, suc, ◌+◌ as ◌+ₙ◌, ◌≤◌, [], ◌∷◌, refl}
use Rattle.std.proofs.Common.{arith, sym, ◌∙◌, ap, ap₂}
use mathlib.Core.Path.{fun_ext}
use mathlib.Core.HLevel.{Σ_prop_path, Π_prop}
use mathlib.Core.Logic.{∥∥₁_elim}
use Rattle.algebra.specs.Ring.{CommRing}
use Rattle.algebra.specs.Hom.{Hom}
use Rattle.algebra.specs.Power.{power}
use Rattle.algebra.specs.Range.{total, adds}
use Rattle.algebra.specs.Series.{Series, tail, zeros, const, sum, scaled, product, Below}
use Rattle.algebra.proofs.Basic.{mul_zero, zero_mul, mul_one}
use Rattle.algebra.proofs.Homs.{map_zero}
use Rattle.algebra.proofs.Ranges.{total_first, total_cong, add_laws, mul-total}
use Rattle.algebra.proofs.SeriesRing.{product_head, product_tail, product_zeros}
use Rattle.algebra.proofs.Degrees.{Below-zero, Below-tail, Below-more, Below-sum, Below-product, Below-const}
use Rattle.algebra.proofs.Polynomials.{Poly, poly_ring, X, constant}
use Rattle.algebra.specs.Expression.{◌:+◌, ◌:*◌, :0, :1, var}
use Rattle.algebra.proofs.Solver.{env, solve, solve2, solve3, solve4}

module _ (R S : CommRing) (F : Hom R S) (x : S.Carrier) where
  open S use {add as ◌+◌, mul as ◌*◌, zero as 𝟘, one as 𝟙}
  open R use {Carrier as C, ops as o}

  infixl 70 ◌+◌
  infixl 75 ◌*◌
  -- f 0 + f 1 x + .. + f (n - 1) x^(n - 1)
  abbrev pub horner : ℕ → Series C → S.Carrier
  horner zero f = 𝟘
  horner (suc n) f = F.map (f zero) + x * horner n (tail f)

  pub horner_zeros : (n : ℕ) → horner n (zeros o) ≡ 𝟘
  horner_zeros zero = refl
  horner_zeros (suc n) = ap₂ (λ y z. y + x * z) (map_zero R S F) (horner_zeros n) ∙ S.zero_add (x * 𝟘) ∙ mul_zero S x

  -- more places than the polynomial has change nothing
  pub horner_more : (n m : ℕ) (f : Series C) → Below o n f → n ≤ m → horner m f ≡ horner n f
  horner_more zero m f b l = ap (horner m) (Below-zero R f b) ∙ horner_zeros m
  horner_more (suc n) zero f b l = absurd (omega arith)
  horner_more (suc n) (suc m) f b l = ap (λ z. F.map (f zero) + x * z) (horner_more n m (tail f) (Below-tail R n f b) (omega arith))

  -- any two bounds give the same value
  pub horner_same : (f : Series C) (n m : ℕ) → Below o n f → Below o m f → horner n f ≡ horner m f
  horner_same f n m b c = sym (horner_more n (n +ₙ m) f b (omega arith)) ∙ horner_more m (n +ₙ m) f c (omega arith)

  pub horner-sum : (n : ℕ) (f g : Series C) → horner n (sum o f g) ≡ horner n f + horner n g
  horner-sum zero f g = sym (S.zero_add 𝟘)
  horner-sum (suc n) f g = ap₂ (λ y z. y + x * z) (F.map_add (f zero) (g zero)) (horner-sum n (tail f) (tail g)) ∙ solve S (env 𝟘 (F.map (f zero) ∷ F.map (g zero) ∷ x ∷ horner n (tail f) ∷ horner n (tail g) ∷ [])) (var 0 :+ var 1 :+ var 2 :* (var 3 :+ var 4)) (var 0 :+ var 2 :* var 3 :+ (var 1 :+ var 2 :* var 4)) refl

  pub horner-scaled : (n : ℕ) (a : C) (f : Series C) → horner n (scaled o a f) ≡ F.map a * horner n f
  horner-scaled zero a f = sym (mul_zero S (F.map a))
  horner-scaled (suc n) a f = ap₂ (λ y z. y + x * z) (F.map_mul a (f zero)) (horner-scaled n a (tail f)) ∙ solve4 S (λ a f x h. a :* f :+ x :* (a :* h)) (λ a f x h. a :* (f :+ x :* h)) refl (F.map a) (F.map (f zero)) x (horner n (tail f))

  pub horner-product : (n m k : ℕ) (f g : Series C) → Below o n f → Below o m g → n +ₙ m ≤ k → horner k (product o f g) ≡ horner n f * horner m g
  horner-product zero m k f g b c l = ap (horner k) (ap (λ h. product o h g) (Below-zero R f b) ∙ fun_ext (product_zeros R g)) ∙ horner_zeros k ∙ sym (zero_mul S (horner m g))
  horner-product (suc n) m zero f g b c l = absurd (omega arith)
  horner-product (suc n) m (suc k) f g b c l = ap₂ (λ y h. F.map y + x * horner k h) (product_head R f g) (fun_ext (product_tail R f g)) ∙ ap₂ (λ y z. y + x * z) (F.map_mul (f zero) (g zero)) (horner-sum k (scaled o (f zero) (tail g)) (product o (tail f) g) ∙ ap₂ (λ y z. y + z) (horner-scaled k (f zero) (tail g)) (horner-product n m k (tail f) g (Below-tail R n f b) c (omega arith))) ∙ solve S (env 𝟘 (F.map (f zero) ∷ F.map (g zero) ∷ x ∷ horner k (tail g) ∷ horner n (tail f) ∷ horner m g ∷ [])) (var 0 :* var 1 :+ var 2 :* (var 0 :* var 3 :+ var 4 :* var 5)) (var 0 :* (var 1 :+ var 2 :* var 3) :+ var 2 :* var 4 :* var 5) refl ∙ ap (λ z. F.map (f zero) * z + x * horner n (tail f) * horner m g) (horner_more m (suc k) g c (omega arith)) ∙ solve4 S (λ f g x h. f :* g :+ x :* h :* g) (λ f g x h. (f :+ x :* h) :* g) refl (F.map (f zero)) (horner m g) x (horner n (tail f))

  -- the value as a sum of multiples of powers
  pub horner_is : (n : ℕ) (f : Series C) → horner n f ≡ total (adds S.ops) n (λ i. F.map (f i) * power S.ops x i)
  horner_is zero f = refl
  horner_is (suc n) f = ap₂ (λ y z. y + z) (sym (mul_one S (F.map (f zero)))) (ap (λ z. x * z) (horner_is n (tail f)) ∙ mul-total S n (λ i. F.map (f (suc i)) * power S.ops x i) x ∙ total_cong (adds S.ops) (add_laws S) n (λ i. x * (F.map (f (suc i)) * power S.ops x i)) (λ i. F.map (f (suc i)) * (x * power S.ops x i)) (λ i l. solve3 S (λ x f p. x :* (f :* p)) (λ x f p. f :* (x :* p)) refl x (F.map (f (suc i))) (power S.ops x i))) ∙ sym (total_first (adds S.ops) (add_laws S) n (λ i. F.map (f i) * power S.ops x i))

  pub horner_const : (n : ℕ) (a : C) → horner (suc n) (const o a) ≡ F.map a
  horner_const n a = ap (λ z. F.map a + x * z) (horner_zeros n) ∙ solve2 S (λ a x. a :+ x :* :0) (λ a x. a) refl (F.map a) x

  module _ (is_set : IsSet S.Carrier) where
    abbrev Value : Poly o → Type 0
    Value p = (v : S.Carrier) × ((n : ℕ) → Below o n p.0 → v ≡ horner n p.0)

    Value-prop : (p : Poly o) → IsProp (Value p)
    Value-prop p v w = Σ_prop_path (λ u. Π_prop λ n. Π_prop λ b. is_set u (horner n p.0)) (∥∥₁_elim p.1 (is_set v.0 w.0) (λ (n, b). v.1 n b ∙ sym (w.1 n b)))

    value : (p : Poly o) → Value p
    value p = ∥∥₁_elim p.1 (Value-prop p) (λ (n, b). (horner n p.0, λ m c. horner_same p.0 n m b c))

    -- the value of a polynomial
    pub value_at : Poly o → S.Carrier
    value_at p = (value p).0

    pub value_at_is : (p : Poly o) (n : ℕ) → Below o n p.0 → value_at p ≡ horner n p.0
    unfolding value_at
    value_at_is p = (value p).1

    pub value-add : (p q : Poly o) → value_at ((poly_ring R).add p q) ≡ value_at p + value_at q
    value-add p q = ∥∥₁_elim p.1 (is_set (value_at ((poly_ring R).add p q)) (value_at p + value_at q)) (λ (n, b). ∥∥₁_elim q.1 (is_set (value_at ((poly_ring R).add p q)) (value_at p + value_at q)) (λ (m, c). by (n +ₙ m) (Below-more R n (n +ₙ m) p.0 (omega arith) b) (Below-more R m (n +ₙ m) q.0 (omega arith) c)))
      where
        by : (n : ℕ) → Below o n p.0 → Below o n q.0 → value_at ((poly_ring R).add p q) ≡ value_at p + value_at q
        by n b c = value_at_is ((poly_ring R).add p q) n (Below-sum R n p.0 q.0 b c) ∙ horner-sum n p.0 q.0 ∙ ap₂ (λ y z. y + z) (sym (value_at_is p n b)) (sym (value_at_is q n c))

    pub value-mul : (p q : Poly o) → value_at ((poly_ring R).mul p q) ≡ value_at p * value_at q
    value-mul p q = ∥∥₁_elim p.1 (is_set (value_at ((poly_ring R).mul p q)) (value_at p * value_at q)) (λ (n, b). ∥∥₁_elim q.1 (is_set (value_at ((poly_ring R).mul p q)) (value_at p * value_at q)) (λ (m, c). value_at_is ((poly_ring R).mul p q) (n +ₙ m) (Below-product R n m p.0 q.0 b c) ∙ horner-product n m (n +ₙ m) p.0 q.0 b c (omega arith) ∙ ap₂ (λ y z. y * z) (sym (value_at_is p n b)) (sym (value_at_is q m c))))

    pub value_constant : (a : C) → value_at (constant R a) ≡ F.map a
    value_constant a = value_at_is (constant R a) 1 (Below-const R a) ∙ horner_const 0 a

    -- evaluation is a map of rings
    abbrev pub value_hom : Hom (poly_ring R) S
    value_hom = record { map = value_at; is = record { map_add = value-add; map_mul = value-mul; map_one = value_constant R.one ∙ F.map_one } }

    pub value-X : value_at (X R) ≡ x
    value-X = value_at_is (X R) 2 (λ i k. below i k) ∙ ap₂ (λ y z. y + x * (z + x * 𝟘)) (map_zero R S F) F.map_one ∙ solve2 S (λ x y. :0 :+ x :* (:1 :+ x :* :0)) (λ x y. x) refl x x
      where
        below : Below o 2 (X R).0
        below zero k = absurd (omega arith)
        below (suc zero) k = absurd (omega arith)
        below (suc (suc i)) k = refl
