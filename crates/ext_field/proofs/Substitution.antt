-- Modulo g, a(X^k) is the value of a at the k-th power of X.
use Rattle.std.proofs.Common.{◌≡◌, ℕ, zero, suc, ◌-◌, Bool, true, IsTrue, List, [], ◌∷◌, ◌++◌, length, map, replicate, refl, ap, ap₂, sym, ◌∙◌, eqb, eq-eqb, arith}
use Rattle.std.proofs.lemmas.Bool.{and_parts, and_from}
use Rattle.algebra.specs.Ring.{Ops, CommRing, HeldLaws}
use Rattle.algebra.specs.Power.{power}
use Rattle.algebra.specs.Poly.{all_held, row_held, coeff, SameCoeffs, plus, scaled, times, value_at, monomial, at_power, degree_of, IsMonic, remainder, modulo}
use Rattle.algebra.proofs.Basic.{zero_mul, add_zero}
use Rattle.algebra.specs.HeldRing.{Held, held_ops}
use Rattle.algebra.proofs.Held.{held_ring}
use Rattle.algebra.proofs.Lists.{coeff-plus, coeff-scaled}
use Rattle.algebra.proofs.Maps.{map_plus, map_times, map_remainder}
use Rattle.algebra.proofs.Dividing.{length-remainder}
use Rattle.algebra.proofs.Quotients.{remainder_same, remainder-plus, remainder-product}
use Rattle.algebra.proofs.HeldLists.{values, each_list, held_preserves, at_power_held, remainder_held}
use Rattle.algebra.proofs.HeldQuotients.{held_monic, held_quotient_laws}

module _ (R : CommRing) where
  open R use {Carrier as C, ops as o, zero as 𝟘, one as 𝟙}

  moved : (f : List C) (i : ℕ) → coeff o (𝟘 ∷ plus o (scaled o 𝟙 f) (𝟘 ∷ [])) i ≡ coeff o (𝟘 ∷ f) i
  moved f zero = refl
  moved f (suc i) = coeff-plus R (scaled o 𝟙 f) (𝟘 ∷ []) i ∙ ap₂ R.add (coeff-scaled R 𝟙 f i ∙ R.one_mul (coeff o f i)) (none i) ∙ add_zero R (coeff o f i)
    where
      none : (i : ℕ) → coeff o (𝟘 ∷ []) i ≡ 𝟘
      none zero = refl
      none (suc i) = refl

  -- X f has the coefficients of f, each one place up
  same_shift : (f : List C) → SameCoeffs o (times o (monomial o 1) f) (𝟘 ∷ f)
  unfolding times
  same_shift f i = coeff-plus R (scaled o 𝟘 f) (𝟘 ∷ plus o (scaled o 𝟙 f) (𝟘 ∷ [])) i ∙ ap₂ R.add (coeff-scaled R 𝟘 f i ∙ zero_mul R (coeff o f i)) (moved f i) ∙ R.zero_add (coeff o (𝟘 ∷ f) i)

  module _ (g : List C) (M : IsMonic o g) where
    zero_first : (f : List C) → remainder o g (𝟘 ∷ f) ≡ (modulo o g).mul (remainder o g (monomial o 1)) (remainder o g f)
    zero_first f = sym (remainder_same R g M (times o (monomial o 1) f) (𝟘 ∷ f) (same_shift f)) ∙ remainder-product R g M (monomial o 1) f

    split_first : (a : C) (f : List C) → remainder o g (a ∷ f) ≡ plus o (remainder o g (a ∷ [])) (remainder o g (𝟘 ∷ f))
    split_first a f = ap (λ z. remainder o g (z ∷ f)) (sym (add_zero R a)) ∙ remainder-plus R g M (a ∷ []) (𝟘 ∷ f)

module _ {C : Type 0} {held : C → Bool} {o : Ops C} (L : HeldLaws held o) where
  held_zero_first : (g f : List C) → IsTrue (all_held held g) → IsTrue (all_held held f) → IsMonic o g → remainder o g (o.zero ∷ f) ≡ remainder o g (times o (remainder o g (monomial o 1)) (remainder o g f))
  held_zero_first g f hg hf = each_list held (λ g. IsMonic o g → Goal g f) (λ g. each_list held (λ f. IsMonic o (values held g) → Goal (values held g) f) (λ f M. of_values g f (held_monic L g M)) f hf) g hg
    where
      Goal : List C → List C → Type 0
      Goal g f = remainder o g (o.zero ∷ f) ≡ remainder o g (times o (remainder o g (monomial o 1)) (remainder o g f))

      of_values : (g f : List (Held held)) → IsMonic (held_ops L) g → Goal (values held g) (values held f)
      of_values g f M =
          sym (map_remainder (held_preserves L) g ((held_ops L).zero ∷ f))
          ∙ ap (values held) (zero_first (held_ring L) g M f)
          ∙ map_remainder (held_preserves L) g (times (held_ops L) (remainder (held_ops L) g (monomial (held_ops L) 1)) (remainder (held_ops L) g f))
          ∙ ap (remainder o (values held g)) (map_times (held_preserves L) (remainder (held_ops L) g (monomial (held_ops L) 1)) (remainder (held_ops L) g f) ∙ ap₂ (times o) (map_remainder (held_preserves L) g (monomial (held_ops L) 1)) (map_remainder (held_preserves L) g f))

  held_split_first : (g : List C) (a : C) (f : List C) → IsTrue (all_held held g) → IsTrue (held a) → IsTrue (all_held held f) → IsMonic o g → remainder o g (a ∷ f) ≡ plus o (remainder o g (a ∷ [])) (remainder o g (o.zero ∷ f))
  held_split_first g a f hg ha hf = each_list held (λ g. IsMonic o g → Goal g f) (λ g. each_list held (λ f. IsMonic o (values held g) → Goal (values held g) f) (λ f M. of_values g f (held_monic L g M)) f hf) g hg
    where
      Goal : List C → List C → Type 0
      Goal g f = remainder o g (a ∷ f) ≡ plus o (remainder o g (a ∷ [])) (remainder o g (o.zero ∷ f))

      of_values : (g f : List (Held held)) → IsMonic (held_ops L) g → Goal (values held g) (values held f)
      of_values g f M =
          sym (map_remainder (held_preserves L) g ((a, ha) ∷ f))
          ∙ ap (values held) (split_first (held_ring L) g M (a, ha) f)
          ∙ map_plus (held_preserves L) (remainder (held_ops L) g ((a, ha) ∷ [])) (remainder (held_ops L) g ((held_ops L).zero ∷ f))
          ∙ ap₂ (plus o) (map_remainder (held_preserves L) g ((a, ha) ∷ [])) (map_remainder (held_preserves L) g ((held_ops L).zero ∷ f))

  pub shifted_held : (n : ℕ) (f : List C) → IsTrue (all_held held f) → IsTrue (all_held held (replicate n o.zero ++ f))
  shifted_held zero f h = h
  shifted_held (suc n) f h = and_from (held o.zero) (all_held held (replicate n o.zero ++ f)) L.zero_held (shifted_held n f h)

  pub monomial_held : (k : ℕ) → IsTrue (all_held held (monomial o k))
  monomial_held k = shifted_held k (o.one ∷ []) (and_from (held o.one) true L.one_held refl)

  module _ (g : List C) (hg : IsTrue (all_held held g)) (M : IsMonic o g) where
    -- a remainder is an element
    pub row : (f : List C) → IsTrue (all_held held f) → IsTrue (row_held held (degree_of o g) (remainder o g f))
    row f h = and_from (eqb (length (remainder o g f)) (degree_of o g)) (all_held held (remainder o g f)) (eq-eqb (length (remainder o g f)) (degree_of o g) (length-remainder o g f)) (remainder_held L g f hg h)

    abbrev x : List C
    x = remainder o g (monomial o 1)

    x_row : IsTrue (row_held held (degree_of o g) x)
    x_row = row (monomial o 1) (monomial_held 1)

    laws : HeldLaws (row_held held (degree_of o g)) (modulo o g)
    laws = held_quotient_laws L g hg M

    power_row : (n : ℕ) → IsTrue (row_held held (degree_of o g) (power (modulo o g) x n))
    power_row zero = laws.one_held
    power_row (suc n) = laws.mul_held x (power (modulo o g) x n) x_row (power_row n)

    pub shifted_is : (n : ℕ) (f : List C) → IsTrue (all_held held f) → remainder o g (replicate n o.zero ++ f) ≡ (modulo o g).mul (power (modulo o g) x n) (remainder o g f)
    shifted_is zero f h = sym (laws.one_mul (remainder o g f) (row f h))
    shifted_is (suc n) f h = held_zero_first g (replicate n o.zero ++ f) hg (shifted_held n f h) M ∙ ap ((modulo o g).mul x) (shifted_is n f h) ∙ sym (laws.mul_assoc x (power (modulo o g) x n) (remainder o g f) x_row (power_row n) (row f h))

    -- a(X^k) is the value of a at the k-th power of X
    pub substituted : (k : ℕ) (f : List C) → IsTrue (all_held held f) → remainder o g (at_power o (suc k) f) ≡ value_at (modulo o g) (power (modulo o g) x (suc k)) (map (λ c. remainder o g (c ∷ [])) f)
    unfolding at_power
    substituted k [] h = refl
    substituted k (a ∷ f) h =
        held_split_first g a (replicate (suc k - 1) o.zero ++ at_power o (suc k) f) hg (and_parts (held a) (all_held held f) h).0 (shifted_held (suc k - 1) (at_power o (suc k) f) (at_power_held L (suc k) f (and_parts (held a) (all_held held f) h).1)) M
        ∙ ap (plus o (remainder o g (a ∷ [])))
        (ap (λ n. remainder o g (o.zero ∷ (replicate n o.zero ++ at_power o (suc k) f))) (down k)
        ∙ shifted_is (suc k) (at_power o (suc k) f) (at_power_held L (suc k) f (and_parts (held a) (all_held held f) h).1)
        ∙ ap ((modulo o g).mul (power (modulo o g) x (suc k))) (substituted k f (and_parts (held a) (all_held held f) h).1))
      where
        down : (k : ℕ) → suc k - 1 ≡ k
        down k = omega arith
