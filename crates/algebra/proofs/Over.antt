-- Evaluation of polynomials over a ring R at held elements of another, along a map that keeps the operations.
use Rattle.std.specs.Prelude.{◌≡◌, ℕ, ◌<◌, Bool, IsTrue, List, [], ◌∷◌, map, refl}
use Rattle.std.proofs.Common.{sym, ◌∙◌, ap, ap₂}
use Rattle.algebra.specs.Ring.{Ops, CommRing, HeldLaws}
use Rattle.algebra.specs.Hom.{Preserves}
use Rattle.algebra.specs.Power.{power}
use Rattle.algebra.specs.Poly.{SameCoeffs, value_at, plus, negated, scaled, times, at_power, IsMonic, remainder}
use Rattle.algebra.specs.HeldRing.{Held, held_ops}
use Rattle.algebra.proofs.Held.{same_held, held_ring}
use Rattle.algebra.proofs.Homs.{keeps_power}
use Rattle.algebra.proofs.Maps.{map_value_at}
use Rattle.algebra.proofs.Values.{value, value_same, value-plus, value-negated, value-scaled, value-times, value-remainder, value-substituted}
use Rattle.algebra.proofs.HeldLists.{values, held_preserves}
use Rattle.algebra.proofs.HeldQuotients.{held_hom}

module _ {C : Type 0} {held : C → Bool} {o : Ops C} (L : HeldLaws held o) (R : CommRing) (f : R.Carrier → C) (K : Preserves R.ops o f) (into : (a : R.Carrier) → IsTrue (held (f a))) where
  -- the value at x of the list whose coefficients are mapped
  abbrev pub over : C → List R.Carrier → C
  over x a = value_at o x (map f a)

  inner : Held held → List R.Carrier → Held held
  inner x a = value R (held_ring L) (held_hom L R f K into) x a

  is : (x : Held held) (a : List R.Carrier) → (inner x a).0 ≡ over x.0 a
  unfolding inner
  is x a = map_value_at (held_preserves L) x (map (held_hom L R f K into).map a) ∙ ap (value_at o x.0) (twice a)
    where
      twice : (a : List R.Carrier) → values held (map (held_hom L R f K into).map a) ≡ map f a
      twice [] = refl
      twice (b ∷ a) = ap (λ z. f b ∷ z) (twice a)

  pub over_same : (x : C) → IsTrue (held x) → (a b : List R.Carrier) → SameCoeffs R.ops a b → over x a ≡ over x b
  unfolding inner
  over_same x h a b s = sym (is (x, h) a) ∙ ap (λ z. z.0) (value_same R (held_ring L) (held_hom L R f K into) (x, h) a b s) ∙ is (x, h) b

  pub over-plus : (x : C) → IsTrue (held x) → (a b : List R.Carrier) → over x (plus R.ops a b) ≡ o.add (over x a) (over x b)
  unfolding inner
  over-plus x h a b = sym (is (x, h) (plus R.ops a b)) ∙ ap (λ z. z.0) (value-plus R (held_ring L) (held_hom L R f K into) (x, h) a b) ∙ ap₂ o.add (is (x, h) a) (is (x, h) b)

  pub over-negated : (x : C) → IsTrue (held x) → (a : List R.Carrier) → over x (negated R.ops a) ≡ o.neg (over x a)
  unfolding inner
  over-negated x h a = sym (is (x, h) (negated R.ops a)) ∙ ap (λ z. z.0) (value-negated R (held_ring L) (held_hom L R f K into) (x, h) a) ∙ ap o.neg (is (x, h) a)

  pub over-scaled : (x : C) → IsTrue (held x) → (c : R.Carrier) (a : List R.Carrier) → over x (scaled R.ops c a) ≡ o.mul (f c) (over x a)
  unfolding inner
  over-scaled x h c a = sym (is (x, h) (scaled R.ops c a)) ∙ ap (λ z. z.0) (value-scaled R (held_ring L) (held_hom L R f K into) (x, h) c a) ∙ ap (o.mul (f c)) (is (x, h) a)

  pub over-times : (x : C) → IsTrue (held x) → (a b : List R.Carrier) → over x (times R.ops a b) ≡ o.mul (over x a) (over x b)
  unfolding inner
  over-times x h a b = sym (is (x, h) (times R.ops a b)) ∙ ap (λ z. z.0) (value-times R (held_ring L) (held_hom L R f K into) (x, h) a b) ∙ ap₂ o.mul (is (x, h) a) (is (x, h) b)

  -- the remainder by g has the same value at a zero of g
  pub over-remainder : (x : C) → IsTrue (held x) → (g : List R.Carrier) → IsMonic R.ops g → over x g ≡ o.zero → (a : List R.Carrier) → over x (remainder R.ops g a) ≡ over x a
  unfolding inner
  over-remainder x h g M e a = sym (is (x, h) (remainder R.ops g a)) ∙ ap (λ z. z.0) (value-remainder R (held_ring L) (held_hom L R f K into) (x, h) g M (same_held held (is (x, h) g ∙ e)) a) ∙ is (x, h) a

  -- the value of a(X^k) at x is that of a at x^k
  pub over-at_power : (k : ℕ) → 0 < k → (x : C) → IsTrue (held x) → (a : List R.Carrier) → over x (at_power R.ops k a) ≡ over (power o x k) a
  unfolding inner
  over-at_power k p x h a = sym (is (x, h) (at_power R.ops k a)) ∙ ap (λ z. z.0) (value-substituted R (held_ring L) (held_hom L R f K into) (x, h) k p a) ∙ is (power (held_ops L) (x, h) k) a ∙ ap (λ y. over y a) (keeps_power (held_preserves L) (x, h) k)
