-- The ring of polynomials: the series that are zero from some place on.
use Rattle.std.specs.Prelude.{◌≡◌, ℕ, zero, suc, ◌+◌ as ◌+ₙ◌, ◌*◌ as ◌*ₙ◌, ◌-◌ as ◌-ₙ◌, ◌<◌, ◌≤◌, ◌≢◌, ◌⊎◌, refl}
use Rattle.std.proofs.Common.{arith, sym, ◌∙◌, ap, inl, inr}
use mathlib.Core.Path.{fun_ext}
use mathlib.Core.HLevel.{Σ_prop_path, Π_set}
use mathlib.Core.Logic.{∥∥₁_map, ∥∥₁_elim}
use Rattle.algebra.specs.Ring.{Ops, CommRing, RingLaws}
use Rattle.algebra.specs.Hom.{Hom}
use Rattle.algebra.specs.Power.{power, number, Divides}
use Rattle.algebra.specs.Series.{Series, cons, zeros, const, sum, negated, scaled, product, Below, Monic, IsDivision}
use Rattle.algebra.proofs.Basic.{add_zero, mul_one, zero_mul, mul_add}
use Rattle.algebra.proofs.SeriesRing.{series_ring, product-const, product-scaled, product_zeros, product_comm}
use Rattle.algebra.proofs.Degrees.{Below-sum, Below-negated, Below-const, Below-cons, Below-zeros, Below-product, Below-more, Below-scaled, Below-zero, Monic_product, Monic-one, product_top, divide, Division, quotient_only, remainder_only, quotient_below}

module _ {C : Type 0} (o : Ops C) where
  abbrev pub Bounded : Series C → Type 0
  Bounded f = ∥ ((n : ℕ) × Below o n f) ∥₁

  abbrev pub Poly : Type 0
  Poly = (f : Series C) × Bounded f

  abbrev pub poly : (n : ℕ) (f : Series C) → Below o n f → Poly
  poly n f b = (f, ∣ (n, b) ∣₁)

  pub same : {p q : Poly} → p.0 ≡ q.0 → p ≡ q
  same = Σ_prop_path (λ f. squash₁)

module _ (R : CommRing) where
  open R use {Carrier as C, ops as o, add as ◌+◌, mul as ◌*◌, neg as neg, zero as 𝟘, one as 𝟙}

  infixl 70 ◌+◌
  infixl 75 ◌*◌
  pub Bounded_sum : (f g : Series C) → Bounded o f → Bounded o g → Bounded o (sum o f g)
  Bounded_sum f g s t = ∥∥₁_elim s squash₁ (λ (n, b). ∥∥₁_map t (λ (m, c). (n +ₙ m, Below-sum R (n +ₙ m) f g (Below-more R n (n +ₙ m) f (omega arith) b) (Below-more R m (n +ₙ m) g (omega arith) c))))

  pub Bounded_product : (f g : Series C) → Bounded o f → Bounded o g → Bounded o (product o f g)
  Bounded_product f g s t = ∥∥₁_elim s squash₁ (λ (n, b). ∥∥₁_map t (λ (m, c). (n +ₙ m, Below-product R n m f g b c)))

  pub Bounded_negated : (f : Series C) → Bounded o f → Bounded o (negated o f)
  Bounded_negated f s = ∥∥₁_map s (λ (n, b). (n, Below-negated R n f b))

  abbrev pub constant : C → Poly o
  constant a = poly o 1 (const o a) (Below-const R a)

  abbrev pub polys : Ops (Poly o)
  polys = record {
    zero = poly o 0 (zeros o) (Below-zeros R 0);
    one = constant 𝟙;
    add = λ p q. (sum o p.0 q.0, Bounded_sum p.0 q.0 p.1 q.1);
    mul = λ p q. (product o p.0 q.0, Bounded_product p.0 q.0 p.1 q.1);
    neg = λ p. (negated o p.0, Bounded_negated p.0 p.1);
  }

  pub poly_laws : RingLaws polys
  poly_laws = record {
    add_assoc = λ p q r. same o ((series_ring R).add_assoc p.0 q.0 r.0);
    add_comm = λ p q. same o ((series_ring R).add_comm p.0 q.0);
    zero_add = λ p. same o ((series_ring R).zero_add p.0);
    neg_add = λ p. same o ((series_ring R).neg_add p.0);
    mul_assoc = λ p q r. same o ((series_ring R).mul_assoc p.0 q.0 r.0);
    mul_comm = λ p q. same o ((series_ring R).mul_comm p.0 q.0);
    one_mul = λ p. same o ((series_ring R).one_mul p.0);
    add_mul = λ p q r. same o ((series_ring R).add_mul p.0 q.0 r.0);
  }

  abbrev pub poly_ring : CommRing
  poly_ring = record { Carrier = Poly o; ops = polys; laws = poly_laws }

  -- the coefficients of a polynomial
  abbrev pub series_hom : Hom poly_ring (series_ring R)
  series_hom = record { map = λ p. p.0; is = record { map_add = λ p q. refl; map_mul = λ p q. refl; map_one = refl } }

  abbrev pub constant_hom : Hom R poly_ring
  constant_hom = record { map = constant; is = record { map_add = λ a b. same o (fun_ext (sums a b)); map_mul = λ a b. same o (fun_ext (products a b)); map_one = refl } }
    where
      sums : (a b : C) (i : ℕ) → const o (a + b) i ≡ const o a i + const o b i
      sums a b zero = refl
      sums a b (suc i) = sym (R.zero_add 𝟘)

      products : (a b : C) (i : ℕ) → const o (a * b) i ≡ product o (const o a) (const o b) i
      products a b i = go i ∙ sym (product-const R a (const o b) i)
        where
          go : (i : ℕ) → const o (a * b) i ≡ a * const o b i
          go zero = refl
          go (suc i) = sym (R.mul_comm a 𝟘 ∙ zero_mul R a)

  abbrev pub X : Poly o
  X = poly o 2 (cons 𝟘 (const o 𝟙)) (Below-cons R 1 𝟘 (const o 𝟙) (Below-const R 𝟙))

  pub Monic-X : Monic o 1 X.0
  Monic-X = record { below = Below-cons R 1 𝟘 (const o 𝟙) (Below-const R 𝟙); top = refl }

  pub Monic-power : (d : ℕ) (p : Poly o) (n : ℕ) → Monic o d p.0 → Monic o (n *ₙ d) (power polys p n).0
  Monic-power d p zero m = let e : 0 ≡ 0 *ₙ d = omega arith in rw (← e) (Monic-one R)
  Monic-power d p (suc n) m = let e : d +ₙ n *ₙ d ≡ suc n *ₙ d = omega arith in rw (← e) (Monic_product R d (n *ₙ d) p.0 (power polys p n).0 m (Monic-power d p n m))

  module _ (is_set : IsSet C) where
    series_set : IsSet (Series C)
    series_set = Π_set (λ i. is_set)

    -- a monic factor can be taken away
    pub cancel_monic : (d : ℕ) (g h k : Poly o) → Monic o d g.0 → polys.mul g h ≡ polys.mul g k → h ≡ k
    cancel_monic d g h k m e = same o (∥∥₁_elim h.1 (series_set h.0 k.0) (λ (n, b). ∥∥₁_elim k.1 (series_set h.0 k.0) (λ (l, c). quotient_only R d (n +ₙ l) g.0 (product o g.0 h.0) h.0 (zeros o) k.0 (zeros o) m (Below-more R n (n +ₙ l) h.0 (omega arith) b) (Below-more R l (n +ₙ l) k.0 (omega arith) c) (exact h refl) (exact k (sym e)))))
      where
        exact : (h' : Poly o) → polys.mul g h' ≡ polys.mul g h → IsDivision o d g.0 (product o g.0 h.0) h'.0 (zeros o)
        exact h' f = record { small = Below-zeros R d; sum_is = λ i. add_zero R (product o h'.0 g.0 i) ∙ product_comm R h'.0 g.0 i ∙ ap (λ z. z.0 i) f }

    -- a monic factor of k f divides f, where only 0 times k is 0
    pub exact_division : (d n k : ℕ) (g f : Poly o) → ((a : C) → number o k * a ≡ 𝟘 → a ≡ 𝟘) → Monic o d g.0 → Below o n f.0 → Divides polys g (polys.mul (constant (number o k)) f) → Divides polys g f
    exact_division d n k g f torsion m b (h, e) = go (divide R d n g.0 f.0 m b)
      where
        c : C
        c = number o k

        product-is : (i : ℕ) → product o h.0 g.0 i ≡ c * f.0 i
        product-is i = product_comm R h.0 g.0 i ∙ ap (λ z. z.0 i) (sym e) ∙ product-const R c f.0 i

        go : Division R d n g.0 f.0 → Divides polys g f
        go D = (poly o n D.quotient D.bounded, same o (fun_ext (λ i. sym (D.is.sum_is i) ∙ ap (λ z. product o D.quotient g.0 i + z) (ap (λ z. z i) none) ∙ add_zero R (product o D.quotient g.0 i) ∙ product_comm R D.quotient g.0 i)))
          where
            -- k f has two divisions by g: that by h, and k times that of f
            first : IsDivision o d g.0 (scaled o c f.0) h.0 (zeros o)
            first = record { small = Below-zeros R d; sum_is = λ i. add_zero R (product o h.0 g.0 i) ∙ product-is i }

            second : IsDivision o d g.0 (scaled o c f.0) (scaled o c D.quotient) (scaled o c D.remainder)
            second = record { small = Below-scaled R d c D.remainder D.is.small; sum_is = λ i. ap (λ z. z + c * D.remainder i) (product-scaled R c D.quotient g.0 i) ∙ sym (mul_add R c (product o D.quotient g.0 i) (D.remainder i)) ∙ ap (λ z. c * z) (D.is.sum_is i) }

            quotients : h.0 ≡ scaled o c D.quotient
            quotients = ∥∥₁_elim h.1 (series_set h.0 (scaled o c D.quotient)) (λ (l, s). quotient_only R d (n +ₙ l) g.0 (scaled o c f.0) h.0 (zeros o) (scaled o c D.quotient) (scaled o c D.remainder) m (Below-more R l (n +ₙ l) h.0 (omega arith) s) (Below-more R n (n +ₙ l) (scaled o c D.quotient) (omega arith) (Below-scaled R n c D.quotient D.bounded)) first second)

            none : D.remainder ≡ zeros o
            none = fun_ext (λ i. torsion (D.remainder i) (ap (λ z. z i) (remainder_only R d g.0 (scaled o c f.0) h.0 (scaled o c D.remainder) (zeros o) (rw quotients second) first)))

    -- a factor of a monic polynomial beside a monic one is monic
    pub factor_monic : (d e : ℕ) (g h : Poly o) → 𝟘 ≢ 𝟙 → Monic o d g.0 → Monic o e (polys.mul g h).0 → (d ≤ e) × Monic o (e -ₙ d) h.0
    factor_monic d e g h apart m t = go (divide R d (suc e) g.0 (product o g.0 h.0) m t.below)
      where
        at_e : product o h.0 g.0 e ≡ 𝟙
        at_e = product_comm R h.0 g.0 e ∙ t.top

        long : Below o (suc e -ₙ d) h.0 → d ≤ e
        long b = cases (cases_le d e)
          where
            cases_le : (a b : ℕ) → (a ≤ b) ⊎ (b < a)
            cases_le a b = grind arith

            cases : (d ≤ e) ⊎ (e < d) → d ≤ e
            cases (inl l) = l
            cases (inr l) = absurd (apart (sym (product_zeros R g.0 e) ∙ ap (λ s. product o s g.0 e) (sym (Below-zero R h.0 (λ i k. b i (omega arith)))) ∙ at_e))

        go : Division R d (suc e) g.0 (product o g.0 h.0) → (d ≤ e) × Monic o (e -ₙ d) h.0
        go D = (l, record { below = λ i k. below i (omega arith); top = sym (mul_one R (h.0 (e -ₙ d))) ∙ ap (λ z. h.0 (e -ₙ d) * z) (sym m.top) ∙ sym (product_top R (e -ₙ d) d h.0 g.0 (λ i k. below i (omega arith)) m.below) ∙ ap (product o h.0 g.0) (back l) ∙ at_e })
          where
            quotient : D.quotient ≡ h.0
            quotient = ∥∥₁_elim h.1 (series_set D.quotient h.0) (λ (l, s). quotient_only R d (suc e +ₙ l) g.0 (product o g.0 h.0) D.quotient D.remainder h.0 (zeros o) m (Below-more R (suc e) (suc e +ₙ l) D.quotient (omega arith) D.bounded) (Below-more R l (suc e +ₙ l) h.0 (omega arith) s) D.is (record { small = Below-zeros R d; sum_is = λ i. add_zero R (product o h.0 g.0 i) ∙ product_comm R h.0 g.0 i }))

            below : Below o (suc e -ₙ d) h.0
            below = rw (← quotient) (quotient_below R d (suc e) (suc e) g.0 (product o g.0 h.0) D.quotient D.remainder m t.below D.bounded D.is)

            l : d ≤ e
            l = long below

            back : d ≤ e → e -ₙ d +ₙ d ≡ e
            back l = omega arith
