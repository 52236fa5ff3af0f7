-- The values of polynomials over the residues at an element.
use Rattle.std.proofs.Common.{◌≡◌, ℕ, ◌<◌, Bool, true, refl, IsTrue, List, [], ◌∷◌, map, ap, ap₂, sym, ◌∙◌, subst}
use Rattle.std.specs.Prelude.{nat_lt}
use Rattle.std.proofs.lemmas.Bool.{lt-ltb, and_parts, and_from}
use Rattle.std.proofs.lemmas.Simd.{map-map}
use Rattle.algebra.specs.Ring.{CommRing, HeldLaws, residues}
use Rattle.algebra.specs.Hom.{Preserves}
use Rattle.algebra.specs.Poly.{all_held, plus, scaled, times, value_at, IsMonic, remainder}
use Rattle.algebra.specs.HeldRing.{Held, held_ops}
use Rattle.algebra.proofs.Held.{held_ring}
use Rattle.algebra.proofs.HeldLists.{values, each_list, lifted, values-lifted, held_preserves}
use Rattle.algebra.proofs.HeldQuotients.{held_monic, number_preserves}
use Rattle.algebra.proofs.Maps.{map_plus, map_scaled, map_times, map_remainder}
use Rattle.algebra.proofs.Over.{over, over-plus, over-scaled, over-times, over-remainder}
use Rattle.mod_ring.specs.Laws.{word_laws}
use Rattle.ext_field.specs.Element.{Extension, IsMonicFactor, IsElement, is_element, elements, number}
use Rattle.ext_field.specs.Laws.{factor_held, factor_monic, element_laws}
use Rattle.ext_field.proofs.Substitution.{row}

module _ (f : Extension) (F : IsMonicFactor f) where
  abbrev pub word_held : ℕ → Bool
  word_held c = nat_lt c f.p

  abbrev words : HeldLaws word_held (residues f.p)
  words = word_laws f.p F.p_low

  abbrev word_ring : CommRing
  word_ring = held_ring words

  abbrev as_element : Held word_held → List ℕ
  as_element c = number f c.0

  pub number_element : (c : ℕ) → c < f.p → IsElement f (number f c)
  number_element c l = row words f.factor (factor_held f F) (factor_monic f F) (c ∷ []) (and_from (word_held c) true (lt-ltb c f.p l) refl)

  numbers_kept : Preserves (held_ops words) (elements f) as_element
  numbers_kept = number_preserves words word_ring (λ c. c.0) (held_preserves words) (λ c. c.1) f.factor (factor_held f F) (factor_monic f F)

  pub number_zero : number f 0 ≡ (elements f).zero
  number_zero = numbers_kept.keeps_zero

  into : (c : Held word_held) → IsElement f (as_element c)
  into c = row words f.factor (factor_held f F) (factor_monic f F) (c.0 ∷ []) (and_from (word_held c.0) true c.1 refl)

  -- the value at x of a polynomial over the residues
  abbrev pub at : List ℕ → List ℕ → List ℕ
  at x l = value_at (elements f) x (map (number f) l)

  abbrev laws : HeldLaws (is_element f) (elements f)
  laws = element_laws f F

  seen : (x : List ℕ) (l : List (Held word_held)) → over laws word_ring as_element numbers_kept into x l ≡ at x (values word_held l)
  seen x l = ap (value_at (elements f) x) (sym (map-map (number f) (λ c. c.0) l))

  -- the value is an element
  pub at_element : (x : List ℕ) → IsElement f x → (l : List ℕ) → IsTrue (all_held word_held l) → IsElement f (at x l)
  at_element x h [] k = laws.zero_held
  at_element x h (c ∷ l) k = laws.add_held (number f c) ((elements f).mul x (at x l)) (into (c, (and_parts (word_held c) (all_held word_held l) k).0)) (laws.mul_held x (at x l) h (at_element x h l (and_parts (word_held c) (all_held word_held l) k).1))

  -- G as a list of held numbers
  factor : List (Held word_held)
  factor = lifted word_held f.factor (factor_held f F)

  factor_is : values word_held factor ≡ f.factor
  unfolding factor
  factor_is = values-lifted word_held f.factor (factor_held f F)

  monic : IsMonic (held_ops words) factor
  monic = held_monic words factor (subst (IsMonic (residues f.p)) (sym factor_is) (factor_monic f F))

  module _ (x : List ℕ) (h : IsElement f x) where
    pub at-plus : (a b : List ℕ) → IsTrue (all_held word_held a) → IsTrue (all_held word_held b) → at x (plus (residues f.p) a b) ≡ (elements f).add (at x a) (at x b)
    at-plus a b ha hb = each_list word_held (λ a. at x (plus (residues f.p) a b) ≡ (elements f).add (at x a) (at x b)) (λ a. each_list word_held (λ b. at x (plus (residues f.p) (values word_held a) b) ≡ (elements f).add (at x (values word_held a)) (at x b)) (of_values a) b hb) a ha
      where
        of_values : (a b : List (Held word_held)) → at x (plus (residues f.p) (values word_held a) (values word_held b)) ≡ (elements f).add (at x (values word_held a)) (at x (values word_held b))
        of_values a b = ap (at x) (sym (map_plus (held_preserves words) a b)) ∙ sym (seen x (plus (held_ops words) a b)) ∙ over-plus laws word_ring as_element numbers_kept into x h a b ∙ ap₂ (elements f).add (seen x a) (seen x b)

    pub at-times : (a b : List ℕ) → IsTrue (all_held word_held a) → IsTrue (all_held word_held b) → at x (times (residues f.p) a b) ≡ (elements f).mul (at x a) (at x b)
    at-times a b ha hb = each_list word_held (λ a. at x (times (residues f.p) a b) ≡ (elements f).mul (at x a) (at x b)) (λ a. each_list word_held (λ b. at x (times (residues f.p) (values word_held a) b) ≡ (elements f).mul (at x (values word_held a)) (at x b)) (of_values a) b hb) a ha
      where
        of_values : (a b : List (Held word_held)) → at x (times (residues f.p) (values word_held a) (values word_held b)) ≡ (elements f).mul (at x (values word_held a)) (at x (values word_held b))
        of_values a b = ap (at x) (sym (map_times (held_preserves words) a b)) ∙ sym (seen x (times (held_ops words) a b)) ∙ over-times laws word_ring as_element numbers_kept into x h a b ∙ ap₂ (elements f).mul (seen x a) (seen x b)

    pub at-scaled : (c : ℕ) → c < f.p → (a : List ℕ) → IsTrue (all_held word_held a) → at x (scaled (residues f.p) c a) ≡ (elements f).mul (number f c) (at x a)
    at-scaled c l = each_list word_held (λ a. at x (scaled (residues f.p) c a) ≡ (elements f).mul (number f c) (at x a)) (λ a. ap (at x) (sym (map_scaled (held_preserves words) (c, lt-ltb c f.p l) a)) ∙ sym (seen x (scaled (held_ops words) (c, lt-ltb c f.p l) a)) ∙ over-scaled laws word_ring as_element numbers_kept into x h (c, lt-ltb c f.p l) a ∙ ap ((elements f).mul (number f c)) (seen x a))

    -- at a zero of G a polynomial and its remainder have one value
    pub at-remainder : at x f.factor ≡ (elements f).zero → (a : List ℕ) → IsTrue (all_held word_held a) → at x (remainder (residues f.p) f.factor a) ≡ at x a
    at-remainder e = each_list word_held (λ a. at x (remainder (residues f.p) f.factor a) ≡ at x a) (λ a. ap (λ g. at x (remainder (residues f.p) g (values word_held a))) (sym factor_is) ∙ ap (at x) (sym (map_remainder (held_preserves words) factor a)) ∙ sym (seen x (remainder (held_ops words) factor a)) ∙ over-remainder laws word_ring as_element numbers_kept into x h factor monic (seen x factor ∙ ap (at x) factor_is ∙ e) a ∙ seen x a)
