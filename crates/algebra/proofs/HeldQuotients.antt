-- Products, division and quotient rings of lists of held elements.
use Rattle.std.specs.Prelude.{◌≡◌, ℕ, ◌-◌, Bool, eqb, IsTrue, List, [], ◌∷◌, length}
use Rattle.std.proofs.Common.{arith, sym, ◌∙◌, ap, ap₂, eq-eqb, eqb-true}
use Rattle.std.proofs.lemmas.Bool.{and_parts, and_from}
use Rattle.std.proofs.lemmas.List.{length-map}
use mathlib.Core.Path.{fun_ext}
use Rattle.algebra.specs.Ring.{Ops, CommRing, HeldLaws}
use Rattle.algebra.specs.Hom.{Hom, Preserves}
use Rattle.algebra.specs.Series.{product}
use Rattle.algebra.specs.Poly.{all_held, row_held, coeff, plus, negated, scaled, times, reduced, degree_of, IsMonic, remainder, quotient_by, IsDivided, modulo}
use Rattle.algebra.specs.HeldRing.{Held, held_ops}
use Rattle.algebra.proofs.Held.{same_held, held_ring}
use Rattle.algebra.proofs.Homs.{keeps_product}
use Rattle.algebra.proofs.Lists.{coeff-plus, coeff-times}
use Rattle.algebra.proofs.Maps.{map_coeff, map_plus, map_negated, map_scaled, map_reduced, map_times, map_degree_of, map_remainder, map_quotient_by, map_modulo}
use Rattle.algebra.proofs.Dividing.{length-remainder, length-quotient_by, divided, divided_only}
use Rattle.algebra.proofs.Quotients.{quotient_laws, product_step, number_zero, number-add, number-mul, number-neg}
use Rattle.algebra.proofs.HeldLists.{laws_along, values, values_held, lifted, values-lifted, each_list, held_preserves}

module _ {C : Type 0} {held : C → Bool} {o : Ops C} (L : HeldLaws held o) where
  abbrev H : CommRing
  H = held_ring L

  -- a list whose values are monic is monic
  pub held_monic : (g : List (Held held)) → IsMonic o (values held g) → IsMonic (held_ops L) g
  held_monic g M = record { filled = omega (arith, M.filled, length-map g (λ a. a.0)); top = same_held held (map_coeff (held_preserves L) g (degree_of (held_ops L) g) ∙ ap (coeff o (values held g)) (sym (map_degree_of (held_preserves L) g)) ∙ M.top) }

  pub held_coeff-plus : (f g : List C) → IsTrue (all_held held f) → IsTrue (all_held held g) → (i : ℕ) → coeff o (plus o f g) i ≡ o.add (coeff o f i) (coeff o g i)
  held_coeff-plus f g h k i = each_list held (λ f. coeff o (plus o f g) i ≡ o.add (coeff o f i) (coeff o g i)) (λ f. each_list held (λ g. coeff o (plus o (values held f) g) i ≡ o.add (coeff o (values held f) i) (coeff o g i)) (of_values f) g k) f h
    where
      of_values : (f g : List (Held held)) → coeff o (plus o (values held f) (values held g)) i ≡ o.add (coeff o (values held f) i) (coeff o (values held g) i)
      of_values f g = ap (λ z. coeff o z i) (sym (map_plus (held_preserves L) f g)) ∙ sym (map_coeff (held_preserves L) (plus (held_ops L) f g) i) ∙ ap (λ z. z.0) (coeff-plus H f g i) ∙ ap₂ o.add (map_coeff (held_preserves L) f i) (map_coeff (held_preserves L) g i)

  -- the coefficients of a product
  pub held_coeff-times : (f g : List C) → IsTrue (all_held held f) → IsTrue (all_held held g) → (i : ℕ) → coeff o (times o f g) i ≡ product o (coeff o f) (coeff o g) i
  held_coeff-times f g h k i = each_list held (λ f. coeff o (times o f g) i ≡ product o (coeff o f) (coeff o g) i) (λ f. each_list held (λ g. coeff o (times o (values held f) g) i ≡ product o (coeff o (values held f)) (coeff o g) i) (of_values f) g k) f h
    where
      of_values : (f g : List (Held held)) → coeff o (times o (values held f) (values held g)) i ≡ product o (coeff o (values held f)) (coeff o (values held g)) i
      of_values f g = ap (λ z. coeff o z i) (sym (map_times (held_preserves L) f g)) ∙ sym (map_coeff (held_preserves L) (times (held_ops L) f g) i) ∙ ap (λ z. z.0) (coeff-times H f g i) ∙ keeps_product (held_preserves L) (coeff (held_ops L) f) (coeff (held_ops L) g) i ∙ ap₂ (λ x y. product o x y i) (fun_ext (map_coeff (held_preserves L) f)) (fun_ext (map_coeff (held_preserves L) g))

  -- division by a monic list gives a quotient and a remainder
  pub held_divided : (g f : List C) → IsTrue (all_held held g) → IsTrue (all_held held f) → IsMonic o g → IsDivided o g f (quotient_by o g f) (remainder o g f)
  held_divided g f h k M = record {
    quotient_long = length-quotient_by o g f;
    remainder_long = length-remainder o g f;
    sum_is = λ i. each_list held (λ g. IsMonic o g → sum g f i ≡ coeff o f i) (λ g M. each_list held (λ f. sum (values held g) f i ≡ coeff o f i) (λ f. of_values g f (held_monic g M) i) f k) g h M;
  }
    where
      sum : List C → List C → ℕ → C
      sum g f i = coeff o (plus o (times o (quotient_by o g f) g) (remainder o g f)) i

      of_values : (g f : List (Held held)) → IsMonic (held_ops L) g → (i : ℕ) → sum (values held g) (values held f) i ≡ coeff o (values held f) i
      of_values g f M i = ap (λ z. coeff o z i) (sym (map_plus (held_preserves L) (times (held_ops L) (quotient_by (held_ops L) g f) g) (remainder (held_ops L) g f) ∙ ap₂ (plus o) (map_times (held_preserves L) (quotient_by (held_ops L) g f) g ∙ ap (λ z. times o z (values held g)) (map_quotient_by (held_preserves L) g f)) (map_remainder (held_preserves L) g f))) ∙ sym (map_coeff (held_preserves L) (plus (held_ops L) (times (held_ops L) (quotient_by (held_ops L) g f) g) (remainder (held_ops L) g f)) i) ∙ ap (λ z. z.0) ((divided H g M f).sum_is i) ∙ map_coeff (held_preserves L) f i

  -- and they are the only ones
  pub held_divided_only : (g f q r : List C) → IsTrue (all_held held g) → IsTrue (all_held held f) → IsTrue (all_held held q) → IsTrue (all_held held r) → IsMonic o g → IsDivided o g f q r → (q ≡ quotient_by o g f) × (r ≡ remainder o g f)
  held_divided_only g f q r hg hf hq hr = each_list held (λ g. IsMonic o g → IsDivided o g f q r → (q ≡ quotient_by o g f) × (r ≡ remainder o g f)) (λ g. each_list held (λ f. IsMonic o (values held g) → IsDivided o (values held g) f q r → (q ≡ quotient_by o (values held g) f) × (r ≡ remainder o (values held g) f)) (λ f. each_list held (λ q. IsMonic o (values held g) → IsDivided o (values held g) (values held f) q r → (q ≡ quotient_by o (values held g) (values held f)) × (r ≡ remainder o (values held g) (values held f))) (λ q. each_list held (λ r. IsMonic o (values held g) → IsDivided o (values held g) (values held f) (values held q) r → (values held q ≡ quotient_by o (values held g) (values held f)) × (r ≡ remainder o (values held g) (values held f))) (of_values g f q) r hr) q hq) f hf) g hg
    where
      of_values : (g f q r : List (Held held)) → IsMonic o (values held g) → IsDivided o (values held g) (values held f) (values held q) (values held r) → (values held q ≡ quotient_by o (values held g) (values held f)) × (values held r ≡ remainder o (values held g) (values held f))
      of_values g f q r M D = (ap (values held) only.0 ∙ map_quotient_by (held_preserves L) g f, ap (values held) only.1 ∙ map_remainder (held_preserves L) g f)
        where
          same : (i : ℕ) → coeff (held_ops L) (plus (held_ops L) (times (held_ops L) q g) r) i ≡ coeff (held_ops L) f i
          same i = same_held held (map_coeff (held_preserves L) (plus (held_ops L) (times (held_ops L) q g) r) i ∙ ap (λ z. coeff o z i) (map_plus (held_preserves L) (times (held_ops L) q g) r ∙ ap (λ z. plus o z (values held r)) (map_times (held_preserves L) q g)) ∙ D.sum_is i ∙ sym (map_coeff (held_preserves L) f i))

          only : (q ≡ quotient_by (held_ops L) g f) × (r ≡ remainder (held_ops L) g f)
          only = divided_only H g (held_monic g M) f q r (record { quotient_long = sym (length-map q (λ a. a.0)) ∙ D.quotient_long ∙ ap₂ (λ x y. x - y) (length-map f (λ a. a.0)) (map_degree_of (held_preserves L) g); remainder_long = sym (length-map r (λ a. a.0)) ∙ D.remainder_long ∙ map_degree_of (held_preserves L) g; sum_is = same })

  -- The quotient ring: lists of the degree's length whose elements are held.
  pub held_quotient_laws : (g : List C) → IsTrue (all_held held g) → IsMonic o g → HeldLaws (row_held held (degree_of o g)) (modulo o g)
  held_quotient_laws = each_list held (λ g. IsMonic o g → HeldLaws (row_held held (degree_of o g)) (modulo o g)) (λ g M. laws_along (quotient_laws H g (held_monic g M)) (map_modulo (held_preserves L) g) (into g) (back g))
    where
      into : (g a : List (Held held)) → IsTrue (eqb (length a) (degree_of (held_ops L) g)) → IsTrue (row_held held (degree_of o (values held g)) (values held a))
      into g a h = and_from (eqb (length (values held a)) (degree_of o (values held g))) (all_held held (values held a)) (eq-eqb (length (values held a)) (degree_of o (values held g)) (length-map a (λ a. a.0) ∙ eqb-true (length a) (degree_of (held_ops L) g) h ∙ sym (map_degree_of (held_preserves L) g))) (values_held held a)

      back : (g : List (Held held)) (b : List C) → IsTrue (row_held held (degree_of o (values held g)) b) → (a : List (Held held)) × IsTrue (eqb (length a) (degree_of (held_ops L) g)) × (values held a ≡ b)
      back g b h = (lifted held b (parts b h).1, eq-eqb (length (lifted held b (parts b h).1)) (degree_of (held_ops L) g) (sym (length-map (lifted held b (parts b h).1) (λ a. a.0)) ∙ ap length (values-lifted held b (parts b h).1) ∙ eqb-true (length b) (degree_of o (values held g)) (parts b h).0 ∙ map_degree_of (held_preserves L) g), values-lifted held b (parts b h).1)
        where
          parts : (b : List C) → IsTrue (row_held held (degree_of o (values held g)) b) → IsTrue (eqb (length b) (degree_of o (values held g))) × IsTrue (all_held held b)
          parts b h = and_parts (eqb (length b) (degree_of o (values held g))) (all_held held b) h

  -- a product modulo g by Horner's rule: one coefficient of the first factor at a time, from the top
  pub held_product_step : (g : List C) → IsTrue (all_held held g) → IsMonic o g → (a : C) (f h : List C) → IsTrue (held a) → IsTrue (all_held held f) → IsTrue (all_held held h) → length h ≡ degree_of o g → (modulo o g).mul (a ∷ f) h ≡ plus o (scaled o a h) (reduced o g (o.zero ∷ (modulo o g).mul f h))
  held_product_step g hg M a f h ha hf hh e = each_list held (λ g. IsMonic o g → length h ≡ degree_of o g → (modulo o g).mul (a ∷ f) h ≡ plus o (scaled o a h) (reduced o g (o.zero ∷ (modulo o g).mul f h))) (λ g. each_list held (λ f. IsMonic o (values held g) → length h ≡ degree_of o (values held g) → (modulo o (values held g)).mul (a ∷ f) h ≡ plus o (scaled o a h) (reduced o (values held g) (o.zero ∷ (modulo o (values held g)).mul f h))) (λ f. each_list held (λ h. IsMonic o (values held g) → length h ≡ degree_of o (values held g) → (modulo o (values held g)).mul (a ∷ values held f) h ≡ plus o (scaled o a h) (reduced o (values held g) (o.zero ∷ (modulo o (values held g)).mul (values held f) h))) (of_values g f) h hh) f hf) g hg M e
    where
      of_values : (g f h : List (Held held)) → IsMonic o (values held g) → length (values held h) ≡ degree_of o (values held g) → (modulo o (values held g)).mul (a ∷ values held f) (values held h) ≡ plus o (scaled o a (values held h)) (reduced o (values held g) (o.zero ∷ (modulo o (values held g)).mul (values held f) (values held h)))
      of_values g f h M e = sym ((map_modulo (held_preserves L) g).keeps_mul ((a, ha) ∷ f) h) ∙ ap (values held) (product_step H g (held_monic g M) (a, ha) f h (sym (length-map h (λ a. a.0)) ∙ e ∙ map_degree_of (held_preserves L) g)) ∙ map_plus (held_preserves L) (scaled (held_ops L) (a, ha) h) (reduced (held_ops L) g ((held_ops L).zero ∷ (modulo (held_ops L) g).mul f h)) ∙ ap₂ (plus o) (map_scaled (held_preserves L) (a, ha) h) (map_reduced (held_preserves L) g ((held_ops L).zero ∷ (modulo (held_ops L) g).mul f h) ∙ ap (λ z. reduced o (values held g) (o.zero ∷ z)) ((map_modulo (held_preserves L) g).keeps_mul f h))

-- Constants of the quotient ring: numbers of a ring R, mapped to held elements.
module _ {C : Type 0} {held : C → Bool} {o : Ops C} (L : HeldLaws held o) (R : CommRing) (f : R.Carrier → C) (K : Preserves R.ops o f) (into : (a : R.Carrier) → IsTrue (held (f a))) where
  -- the map to the ring of held elements
  abbrev pub held_hom : Hom R (held_ring L)
  held_hom = record { map = λ a. (f a, into a); is = record { map_add = λ a b. same_held held (K.keeps_add a b); map_mul = λ a b. same_held held (K.keeps_mul a b); map_one = same_held held K.keeps_one } }

  pub number_preserves : (g : List C) → IsTrue (all_held held g) → IsMonic o g → Preserves R.ops (modulo o g) (λ a. remainder o g (f a ∷ []))
  number_preserves = each_list held (λ g. IsMonic o g → Preserves R.ops (modulo o g) (λ a. remainder o g (f a ∷ []))) of_values
    where
      is : (g : List (Held held)) (a : R.Carrier) → remainder o (values held g) (f a ∷ []) ≡ values held (remainder (held_ops L) g (held_hom.map a ∷ []))
      is g a = sym (map_remainder (held_preserves L) g (held_hom.map a ∷ []))

      of_values : (g : List (Held held)) → IsMonic o (values held g) → Preserves R.ops (modulo o (values held g)) (λ a. remainder o (values held g) (f a ∷ []))
      of_values g M = record {
        keeps_zero = is g R.zero ∙ ap (λ z. values held (remainder (held_ops L) g (z ∷ []))) (same_held held K.keeps_zero) ∙ ap (values held) (number_zero (held_ring L) g (held_monic L g M)) ∙ map_remainder (held_preserves L) g [];
        keeps_one = ap (λ z. remainder o (values held g) (z ∷ [])) K.keeps_one;
        keeps_add = λ a b. is g (R.add a b) ∙ ap (λ z. values held (remainder (held_ops L) g (z ∷ []))) (held_hom.map_add a b) ∙ ap (values held) (number-add (held_ring L) g (held_monic L g M) (held_hom.map a) (held_hom.map b)) ∙ map_plus (held_preserves L) (remainder (held_ops L) g (held_hom.map a ∷ [])) (remainder (held_ops L) g (held_hom.map b ∷ [])) ∙ ap₂ (plus o) (sym (is g a)) (sym (is g b));
        keeps_mul = λ a b. is g (R.mul a b) ∙ ap (λ z. values held (remainder (held_ops L) g (z ∷ []))) (held_hom.map_mul a b) ∙ ap (values held) (number-mul (held_ring L) g (held_monic L g M) (held_hom.map a) (held_hom.map b)) ∙ (map_modulo (held_preserves L) g).keeps_mul (remainder (held_ops L) g (held_hom.map a ∷ [])) (remainder (held_ops L) g (held_hom.map b ∷ [])) ∙ ap₂ (modulo o (values held g)).mul (sym (is g a)) (sym (is g b));
        keeps_neg = λ a. is g (R.neg a) ∙ ap (λ z. values held (remainder (held_ops L) g (z ∷ []))) (same_held held (K.keeps_neg a)) ∙ ap (values held) (number-neg (held_ring L) g (held_monic L g M) (held_hom.map a)) ∙ map_negated (held_preserves L) (remainder (held_ops L) g (held_hom.map a ∷ [])) ∙ ap (negated o) (sym (is g a));
      }
