-- Values and substitution for lists of held elements.
use Rattle.std.specs.Prelude.{◌≡◌, ℕ, suc, ◌-◌, ◌<◌, Bool, IsTrue, List, length}
use Rattle.std.proofs.Common.{sym, ◌∙◌, ap, ap₂}
use Rattle.std.proofs.lemmas.List.{length-map}
use mathlib.Core.Path.{fun_ext}
use Rattle.algebra.specs.Ring.{Ops, HeldLaws}
use Rattle.algebra.specs.Range.{total, adds}
use Rattle.algebra.specs.Power.{power}
use Rattle.algebra.specs.Series.{spread}
use Rattle.algebra.specs.Poly.{all_held, coeff, SameCoeffs, plus, times, value_at, at_power, IsMonic, remainder}
use Rattle.algebra.specs.HeldRing.{Held, held_ops}
use Rattle.algebra.proofs.Held.{same_held, held_ring}
use Rattle.algebra.proofs.Homs.{keeps_power, keeps_adds, keeps_spread}
use Rattle.algebra.proofs.Maps.{map_coeff, map_plus, map_times, map_value_at, map_at_power, map_remainder}
use Rattle.algebra.proofs.HeldLists.{values, each_list, held_preserves}
use Rattle.algebra.proofs.HeldQuotients.{held_monic}
use Rattle.algebra.proofs.Lists.{coeff-at_power, coeff-times_is, same-at_power-plus, same-at_power-times}
use Rattle.algebra.proofs.Values.{value_at_is, value_at-plus, value_at-times, value_at-at_power, value_at-remainder}

module _ {C : Type 0} {held : C → Bool} {o : Ops C} (L : HeldLaws held o) where
  -- the value of held coefficients at a held element
  held_value : (x : Held held) (f : List (Held held)) → (value_at (held_ops L) x f).0 ≡ value_at o x.0 (values held f)
  held_value = map_value_at (held_preserves L)

  pub held_value-plus : (x : C) → IsTrue (held x) → (f g : List C) → IsTrue (all_held held f) → IsTrue (all_held held g) → value_at o x (plus o f g) ≡ o.add (value_at o x f) (value_at o x g)
  held_value-plus x hx f g hf hg = each_list held (λ f. value_at o x (plus o f g) ≡ o.add (value_at o x f) (value_at o x g)) (λ f. each_list held (λ g. value_at o x (plus o (values held f) g) ≡ o.add (value_at o x (values held f)) (value_at o x g)) (of_values f) g hg) f hf
    where
      of_values : (f g : List (Held held)) → value_at o x (plus o (values held f) (values held g)) ≡ o.add (value_at o x (values held f)) (value_at o x (values held g))
      of_values f g = ap (value_at o x) (sym (map_plus (held_preserves L) f g)) ∙ sym (held_value (x, hx) (plus (held_ops L) f g)) ∙ ap (λ z. z.0) (value_at-plus (held_ring L) (x, hx) f g) ∙ ap₂ o.add (held_value (x, hx) f) (held_value (x, hx) g)

  pub held_value-times : (x : C) → IsTrue (held x) → (f g : List C) → IsTrue (all_held held f) → IsTrue (all_held held g) → value_at o x (times o f g) ≡ o.mul (value_at o x f) (value_at o x g)
  held_value-times x hx f g hf hg = each_list held (λ f. value_at o x (times o f g) ≡ o.mul (value_at o x f) (value_at o x g)) (λ f. each_list held (λ g. value_at o x (times o (values held f) g) ≡ o.mul (value_at o x (values held f)) (value_at o x g)) (of_values f) g hg) f hf
    where
      of_values : (f g : List (Held held)) → value_at o x (times o (values held f) (values held g)) ≡ o.mul (value_at o x (values held f)) (value_at o x (values held g))
      of_values f g = ap (value_at o x) (sym (map_times (held_preserves L) f g)) ∙ sym (held_value (x, hx) (times (held_ops L) f g)) ∙ ap (λ z. z.0) (value_at-times (held_ring L) (x, hx) f g) ∙ ap₂ o.mul (held_value (x, hx) f) (held_value (x, hx) g)

  -- the value of f(X^k) at x is that of f at x^k
  pub held_value-at_power : (k : ℕ) → 0 < k → (x : C) → IsTrue (held x) → (f : List C) → IsTrue (all_held held f) → value_at o x (at_power o k f) ≡ value_at o (power o x k) f
  held_value-at_power k p x hx = each_list held (λ f. value_at o x (at_power o k f) ≡ value_at o (power o x k) f) (λ f. ap (value_at o x) (sym (map_at_power (held_preserves L) k f)) ∙ sym (held_value (x, hx) (at_power (held_ops L) k f)) ∙ ap (λ z. z.0) (value_at-at_power (held_ring L) (x, hx) k p f) ∙ held_value (power (held_ops L) (x, hx) k) f ∙ ap (λ y. value_at o y (values held f)) (keeps_power (held_preserves L) (x, hx) k))

  -- the remainder by g has the same value at a zero of g
  pub held_value-remainder : (x : C) → IsTrue (held x) → (g f : List C) → IsTrue (all_held held g) → IsTrue (all_held held f) → IsMonic o g → value_at o x g ≡ o.zero → value_at o x (remainder o g f) ≡ value_at o x f
  held_value-remainder x hx g f hg hf = each_list held (λ g. IsMonic o g → value_at o x g ≡ o.zero → value_at o x (remainder o g f) ≡ value_at o x f) (λ g. each_list held (λ f. IsMonic o (values held g) → value_at o x (values held g) ≡ o.zero → value_at o x (remainder o (values held g) f) ≡ value_at o x f) (of_values g) f hf) g hg
    where
      of_values : (g f : List (Held held)) → IsMonic o (values held g) → value_at o x (values held g) ≡ o.zero → value_at o x (remainder o (values held g) (values held f)) ≡ value_at o x (values held f)
      of_values g f M e = ap (value_at o x) (sym (map_remainder (held_preserves L) g f)) ∙ sym (held_value (x, hx) (remainder (held_ops L) g f)) ∙ ap (λ z. z.0) (value_at-remainder (held_ring L) (x, hx) g (held_monic L g M) (same_held held (held_value (x, hx) g ∙ e)) f) ∙ held_value (x, hx) f

  -- the coefficients of f(X^k)
  pub held_coeff-at_power : (k : ℕ) → 0 < k → (f : List C) → IsTrue (all_held held f) → (i : ℕ) → coeff o (at_power o k f) i ≡ spread o k (coeff o f) i
  held_coeff-at_power k p = each_list held (λ f. (i : ℕ) → coeff o (at_power o k f) i ≡ spread o k (coeff o f) i) (λ f i. ap (λ z. coeff o z i) (sym (map_at_power (held_preserves L) k f)) ∙ sym (map_coeff (held_preserves L) (at_power (held_ops L) k f) i) ∙ ap (λ z. z.0) (coeff-at_power (held_ring L) k p f i) ∙ keeps_spread (held_preserves L) k (coeff (held_ops L) f) i ∙ ap (λ s. spread o k s i) (fun_ext (map_coeff (held_preserves L) f)))

  -- the coefficients of a product as sums
  pub held_coeff-times_is : (f g : List C) → IsTrue (all_held held f) → IsTrue (all_held held g) → (i : ℕ) → coeff o (times o f g) i ≡ total (adds o) (suc i) (λ j. o.mul (coeff o f j) (coeff o g (i - j)))
  held_coeff-times_is f g hf hg i = each_list held (λ f. coeff o (times o f g) i ≡ sum f g) (λ f. each_list held (λ g. coeff o (times o (values held f) g) i ≡ sum (values held f) g) (of_values f) g hg) f hf
    where
      sum : List C → List C → C
      sum f g = total (adds o) (suc i) (λ j. o.mul (coeff o f j) (coeff o g (i - j)))

      of_values : (f g : List (Held held)) → coeff o (times o (values held f) (values held g)) i ≡ sum (values held f) (values held g)
      of_values f g = ap (λ z. coeff o z i) (sym (map_times (held_preserves L) f g)) ∙ sym (map_coeff (held_preserves L) (times (held_ops L) f g) i) ∙ ap (λ z. z.0) (coeff-times_is (held_ring L) f g i) ∙ keeps_adds (held_preserves L) (suc i) (λ j. (held_ops L).mul (coeff (held_ops L) f j) (coeff (held_ops L) g (i - j))) ∙ ap₂ (λ s t. total (adds o) (suc i) (λ j. o.mul (s j) (t (i - j)))) (fun_ext (map_coeff (held_preserves L) f)) (fun_ext (map_coeff (held_preserves L) g))

  -- the value as a sum of coefficients times powers
  pub held_value_is : (x : C) → IsTrue (held x) → (f : List C) → IsTrue (all_held held f) → value_at o x f ≡ total (adds o) (length f) (λ i. o.mul (coeff o f i) (power o x i))
  held_value_is x hx = each_list held (λ f. value_at o x f ≡ total (adds o) (length f) (λ i. o.mul (coeff o f i) (power o x i))) (λ f. sym (held_value (x, hx) f) ∙ ap (λ z. z.0) (value_at_is (held_ring L) (x, hx) f) ∙ keeps_adds (held_preserves L) (length f) (λ i. (held_ops L).mul (coeff (held_ops L) f i) (power (held_ops L) (x, hx) i)) ∙ ap₂ (λ s t. total (adds o) (length f) (λ i. o.mul (s i) (t i))) (fun_ext (map_coeff (held_preserves L) f)) (fun_ext (keeps_power (held_preserves L) (x, hx))) ∙ ap (λ n. total (adds o) n (λ i. o.mul (coeff o (values held f) i) (power o x i))) (sym (length-map f (λ a. a.0))))

  -- substitution keeps sums
  pub held_at_power-plus : (k : ℕ) → 0 < k → (f g : List C) → IsTrue (all_held held f) → IsTrue (all_held held g) → SameCoeffs o (at_power o k (plus o f g)) (plus o (at_power o k f) (at_power o k g))
  held_at_power-plus k p f g hf hg = each_list held (λ f. SameCoeffs o (at_power o k (plus o f g)) (plus o (at_power o k f) (at_power o k g))) (λ f. each_list held (λ g. SameCoeffs o (at_power o k (plus o (values held f) g)) (plus o (at_power o k (values held f)) (at_power o k g))) (of_values f) g hg) f hf
    where
      of_values : (f g : List (Held held)) → SameCoeffs o (at_power o k (plus o (values held f) (values held g))) (plus o (at_power o k (values held f)) (at_power o k (values held g)))
      of_values f g i = ap (λ z. coeff o z i) (sym (map_at_power (held_preserves L) k (plus (held_ops L) f g) ∙ ap (at_power o k) (map_plus (held_preserves L) f g))) ∙ sym (map_coeff (held_preserves L) (at_power (held_ops L) k (plus (held_ops L) f g)) i) ∙ ap (λ z. z.0) (same-at_power-plus (held_ring L) k p f g i) ∙ map_coeff (held_preserves L) (plus (held_ops L) (at_power (held_ops L) k f) (at_power (held_ops L) k g)) i ∙ ap (λ z. coeff o z i) (map_plus (held_preserves L) (at_power (held_ops L) k f) (at_power (held_ops L) k g) ∙ ap₂ (plus o) (map_at_power (held_preserves L) k f) (map_at_power (held_preserves L) k g))

  -- substitution keeps products
  pub held_at_power-times : (k : ℕ) → 0 < k → (f g : List C) → IsTrue (all_held held f) → IsTrue (all_held held g) → SameCoeffs o (at_power o k (times o f g)) (times o (at_power o k f) (at_power o k g))
  held_at_power-times k p f g hf hg = each_list held (λ f. SameCoeffs o (at_power o k (times o f g)) (times o (at_power o k f) (at_power o k g))) (λ f. each_list held (λ g. SameCoeffs o (at_power o k (times o (values held f) g)) (times o (at_power o k (values held f)) (at_power o k g))) (of_values f) g hg) f hf
    where
      of_values : (f g : List (Held held)) → SameCoeffs o (at_power o k (times o (values held f) (values held g))) (times o (at_power o k (values held f)) (at_power o k (values held g)))
      of_values f g i = ap (λ z. coeff o z i) (sym (map_at_power (held_preserves L) k (times (held_ops L) f g) ∙ ap (at_power o k) (map_times (held_preserves L) f g))) ∙ sym (map_coeff (held_preserves L) (at_power (held_ops L) k (times (held_ops L) f g)) i) ∙ ap (λ z. z.0) (same-at_power-times (held_ring L) k p f g i) ∙ map_coeff (held_preserves L) (times (held_ops L) (at_power (held_ops L) k f) (at_power (held_ops L) k g)) i ∙ ap (λ z. coeff o z i) (map_times (held_preserves L) (at_power (held_ops L) k f) (at_power (held_ops L) k g) ∙ ap₂ (times o) (map_at_power (held_preserves L) k f) (map_at_power (held_preserves L) k g))
