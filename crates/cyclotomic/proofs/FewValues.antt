-- A polynomial below n with n zeros, whose differences have inverses, is 0.
use Rattle.std.specs.Prelude.{◌≡◌, ℕ, zero, suc, ◌-◌ as ◌-ₙ◌, ◌*◌ as ◌*ₙ◌, ◌<◌, refl}
use Rattle.std.proofs.Common.{sym, ◌∙◌, ap, ap₂, subst, arith}
use mathlib.Core.Path.{fun_ext}
use Rattle.algebra.specs.Ring.{CommRing}
use Rattle.algebra.specs.Range.{adds}
use Rattle.algebra.specs.Power.{less, power, IsUnit}
use Rattle.algebra.specs.Series.{Series, cons, zeros, const, sum, negated, product, Below, Monic, IsDivision}
use Rattle.algebra.proofs.Basic.{add_zero, add_neg, add_cancel}
use Rattle.algebra.proofs.Homs.{id_hom}
use Rattle.algebra.proofs.Ranges.{total_cong, add_laws}
use Rattle.algebra.proofs.Powers.{power-mul, unit_cancel}
use Rattle.algebra.proofs.SeriesRing.{product_zeros}
use Rattle.algebra.proofs.Degrees.{Below-sum, Below-negated, Below-cons, Below-const, Below-zero, Division, divide, quotient_below}
use Rattle.algebra.proofs.Evaluate.{horner, horner_more, horner-sum, horner-product, horner_is}
use Rattle.algebra.specs.Expression.{◌:*◌, ◌:+◌, ◌:-◌, minus, :0, :1}
use Rattle.algebra.proofs.Solver.{solve2, solve3}
use Rattle.cyclotomic.specs.Roots.{transform}

module _ (R : CommRing) where
  open R use {Carrier as C, ops as o, add as ◌+◌, mul as ◌*◌, neg as neg, zero as 𝟘, one as 𝟙}

  infixl 70 ◌+◌
  infixl 75 ◌*◌
  -- the value at x of a polynomial with n coefficients
  abbrev pub at_point : C → ℕ → Series C → C
  at_point x n f = horner R R (id_hom R) x n f

  -- a place of the transform is a value at a power of w
  pub transform_is_value : (w : C) (m : ℕ) (a : Series C) (j : ℕ) → transform o w m a j ≡ at_point (power o w j) m a
  transform_is_value w m a j = total_cong (adds o) (add_laws R) m (λ k. a k * power o w (j *ₙ k)) (λ k. a k * power o (power o w j) k) (λ k l. ap (λ z. a k * z) (power-mul R w j k)) ∙ sym (horner_is R R (id_hom R) (power o w j) m a)

  -- X - a
  abbrev linear : C → Series C
  linear a = cons (neg a) (const o 𝟙)

  linear_monic : (a : C) → Monic o 1 (linear a)
  linear_monic a = record { below = Below-cons R 1 (neg a) (const o 𝟙) (Below-const R 𝟙); top = refl }

  linear_value : (a x : C) → at_point x 2 (linear a) ≡ less o x a
  linear_value a x = solve2 R (λ a x. minus a :+ x :* (:1 :+ x :* :0)) (λ a x. x :- a) refl a x

  -- the value of f is that of the quotient by X - a times x - a, and the remainder
  divided_value : (a x : C) (n : ℕ) (f q r : Series C) → Below o n f → Below o n q → IsDivision o 1 (linear a) f q r → at_point x n f ≡ at_point x n q * less o x a + r 0
  divided_value a x n f q r b c D = sym (horner_more R R (id_hom R) x n (suc (suc n)) f b (omega arith)) ∙ ap (at_point x (suc (suc n))) (sym (fun_ext D.sum_is)) ∙ horner-sum R R (id_hom R) x (suc (suc n)) (product o q (linear a)) r ∙ ap₂ (λ y z. y + z) (horner-product R R (id_hom R) x n 2 (suc (suc n)) q (linear a) c (linear_monic a).below (omega arith) ∙ ap (λ z. at_point x n q * z) (linear_value a x)) (horner_more R R (id_hom R) x 1 (suc (suc n)) r D.small (omega arith) ∙ solve2 R (λ r x. r :+ x :* :0) (λ r x. r) refl (r 0) x)

  pub few_values : (n : ℕ) (f : Series C) (point : ℕ → C) → Below o n f → ((i j : ℕ) → i < n → j < i → IsUnit o (less o (point i) (point j))) → ((i : ℕ) → i < n → at_point (point i) n f ≡ 𝟘) → f ≡ zeros o
  few_values zero f point b apart values = Below-zero R f b
  few_values (suc n) f point b apart values = go (divide R 1 (suc n) (linear (point n)) f (linear_monic (point n)) b) (λ q c. few_values n q point c (λ i j l k. apart i j (omega arith) k))
    where
      a : C
      a = point n

      go : Division R 1 (suc n) (linear a) f → ((q : Series C) → Below o n q → ((i : ℕ) → i < n → at_point (point i) n q ≡ 𝟘) → q ≡ zeros o) → f ≡ zeros o
      go D rest = fun_ext (λ i. sym (D.is.sum_is i) ∙ ap₂ (λ y z. y + z) (ap (λ q. product o q (linear a) i) quotient ∙ product_zeros R (linear a) i) (ap (λ r. r i) remainder) ∙ R.zero_add 𝟘)
        where
          value_is : (x : C) → at_point x (suc n) f ≡ at_point x (suc n) D.quotient * less o x a + D.remainder 0
          value_is x = divided_value a x (suc n) f D.quotient D.remainder b D.bounded D.is

          constant : D.remainder 0 ≡ 𝟘
          constant = solve2 R (λ r q. r) (λ r q. q :* :0 :+ r) refl (D.remainder 0) (at_point a (suc n) D.quotient) ∙ ap (λ z. at_point a (suc n) D.quotient * z + D.remainder 0) (sym (add_neg R a)) ∙ sym (value_is a) ∙ values n (omega arith)

          remainder : D.remainder ≡ zeros o
          remainder = Below-zero R D.remainder all
            where
              all : Below o 0 D.remainder
              all zero l = constant
              all (suc i) l = D.is.small (suc i) (omega arith)

          short : Below o n D.quotient
          short = let e : suc n -ₙ 1 ≡ n = omega arith in subst (λ k. Below o k D.quotient) e (quotient_below R 1 (suc n) (suc n) (linear a) f D.quotient D.remainder (linear_monic a) b D.bounded D.is)

          zero_at : (i : ℕ) → i < n → at_point (point i) n D.quotient ≡ 𝟘
          zero_at i l = unit_cancel R (less o a (point i)) (at_point (point i) n D.quotient) 𝟘 (apart n i (omega arith) l) (ap (λ z. less o a (point i) * z) (sym (horner_more R R (id_hom R) (point i) n (suc n) D.quotient short (omega arith))) ∙ solve3 R (λ a p q. (a :- p) :* q) (λ a p q. minus (q :* (p :- a) :+ :0)) refl a (point i) (at_point (point i) (suc n) D.quotient) ∙ ap (λ z. neg (at_point (point i) (suc n) D.quotient * less o (point i) a + z)) (sym constant) ∙ ap neg (sym (value_is (point i)) ∙ values i (omega arith)) ∙ solve2 R (λ a p. minus :0) (λ a p. (a :- p) :* :0) refl a (point i))

          quotient : D.quotient ≡ zeros o
          quotient = rest D.quotient short zero_at

  -- two polynomials below n with the same values there are one
  pub same_values : (n : ℕ) (f g : Series C) (point : ℕ → C) → Below o n f → Below o n g → ((i j : ℕ) → i < n → j < i → IsUnit o (less o (point i) (point j))) → ((i : ℕ) → i < n → at_point (point i) n f ≡ at_point (point i) n g) → f ≡ g
  same_values n f g point b c apart values = fun_ext (λ i. sym (back i) ∙ ap (λ h. h i + g i) none ∙ R.zero_add (g i))
    where
      h : Series C
      h = sum o f (negated o g)

      back : (i : ℕ) → h i + g i ≡ f i
      back i = solve2 R (λ f g. f :- g :+ g) (λ f g. f) refl (f i) (g i)

      zero_at : (i : ℕ) → i < n → at_point (point i) n h ≡ 𝟘
      zero_at i l = add_cancel R (at_point (point i) n g) (at_point (point i) n h) 𝟘 (R.add_comm (at_point (point i) n g) (at_point (point i) n h) ∙ sym (horner-sum R R (id_hom R) (point i) n h g) ∙ ap (at_point (point i) n) (fun_ext back) ∙ values i l ∙ sym (add_zero R (at_point (point i) n g)))

      none : h ≡ zeros o
      none = few_values n h point (Below-sum R n f (negated o g) b (Below-negated R n g c)) apart zero_at
