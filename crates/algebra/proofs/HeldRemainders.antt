-- The remainder of lists of held elements by a monic list is a map of rings.
use Rattle.std.specs.Prelude.{◌≡◌, Bool, IsTrue, List, length}
use Rattle.std.proofs.Common.{sym, ◌∙◌, ap, ap₂}
use Rattle.std.proofs.lemmas.List.{length-map}
use Rattle.algebra.specs.Ring.{Ops, HeldLaws}
use Rattle.algebra.specs.Poly.{all_held, SameCoeffs, plus, times, degree_of, IsMonic, remainder, modulo}
use Rattle.algebra.specs.HeldRing.{Held, held_ops}
use Rattle.algebra.proofs.Held.{same_held, held_ring}
use Rattle.algebra.proofs.Maps.{map_coeff, map_plus, map_times, map_degree_of, map_remainder, map_modulo}
use Rattle.algebra.proofs.Quotients.{remainder_same, remainder_small, remainder-plus, remainder-product}
use Rattle.algebra.proofs.HeldLists.{values, each_list, held_preserves}
use Rattle.algebra.proofs.HeldQuotients.{held_monic}

module _ {C : Type 0} {held : C → Bool} {o : Ops C} (L : HeldLaws held o) where
  -- what holds for a monic list of held elements and two further lists
  each_pair : (P : List C → List C → List C → Type 0) → ((g f h : List (Held held)) → IsMonic o (values held g) → P (values held g) (values held f) (values held h)) → (g : List C) → IsTrue (all_held held g) → IsMonic o g → (f h : List C) → IsTrue (all_held held f) → IsTrue (all_held held h) → P g f h
  each_pair P k g hg M f h hf hh = each_list held (λ g. IsMonic o g → P g f h) (λ g M. each_list held (λ f. P (values held g) f h) (λ f. each_list held (λ h. P (values held g) (values held f) h) (λ h. k g f h M) h hh) f hf) g hg M

  pub held_remainder-plus : (g : List C) → IsTrue (all_held held g) → IsMonic o g → (f h : List C) → IsTrue (all_held held f) → IsTrue (all_held held h) → remainder o g (plus o f h) ≡ plus o (remainder o g f) (remainder o g h)
  held_remainder-plus = each_pair (λ g f h. remainder o g (plus o f h) ≡ plus o (remainder o g f) (remainder o g h)) (λ g f h M. ap (remainder o (values held g)) (sym (map_plus (held_preserves L) f h)) ∙ sym (map_remainder (held_preserves L) g (plus (held_ops L) f h)) ∙ ap (values held) (remainder-plus (held_ring L) g (held_monic L g M) f h) ∙ map_plus (held_preserves L) (remainder (held_ops L) g f) (remainder (held_ops L) g h) ∙ ap₂ (plus o) (map_remainder (held_preserves L) g f) (map_remainder (held_preserves L) g h))

  pub held_remainder-product : (g : List C) → IsTrue (all_held held g) → IsMonic o g → (f h : List C) → IsTrue (all_held held f) → IsTrue (all_held held h) → remainder o g (times o f h) ≡ (modulo o g).mul (remainder o g f) (remainder o g h)
  held_remainder-product = each_pair (λ g f h. remainder o g (times o f h) ≡ (modulo o g).mul (remainder o g f) (remainder o g h)) (λ g f h M. ap (remainder o (values held g)) (sym (map_times (held_preserves L) f h)) ∙ sym (map_remainder (held_preserves L) g (times (held_ops L) f h)) ∙ ap (values held) (remainder-product (held_ring L) g (held_monic L g M) f h) ∙ (map_modulo (held_preserves L) g).keeps_mul (remainder (held_ops L) g f) (remainder (held_ops L) g h) ∙ ap₂ (modulo o (values held g)).mul (map_remainder (held_preserves L) g f) (map_remainder (held_preserves L) g h))

  -- zeros at the end change nothing
  pub held_remainder_same : (g : List C) → IsTrue (all_held held g) → IsMonic o g → (f h : List C) → IsTrue (all_held held f) → IsTrue (all_held held h) → SameCoeffs o f h → remainder o g f ≡ remainder o g h
  held_remainder_same = each_pair (λ g f h. SameCoeffs o f h → remainder o g f ≡ remainder o g h) (λ g f h M s. sym (map_remainder (held_preserves L) g f) ∙ ap (values held) (remainder_same (held_ring L) g (held_monic L g M) f h (λ i. same_held held (map_coeff (held_preserves L) f i ∙ s i ∙ sym (map_coeff (held_preserves L) h i)))) ∙ map_remainder (held_preserves L) g h)

  -- a list of the degree's length is its own remainder
  pub held_remainder_small : (g : List C) → IsTrue (all_held held g) → IsMonic o g → (f : List C) → IsTrue (all_held held f) → length f ≡ degree_of o g → remainder o g f ≡ f
  held_remainder_small g hg M f hf = each_pair (λ g f h. length f ≡ degree_of o g → remainder o g f ≡ f) (λ g f h M e. sym (map_remainder (held_preserves L) g f) ∙ ap (values held) (remainder_small (held_ring L) g (held_monic L g M) f (sym (length-map f (λ a. a.0)) ∙ e ∙ map_degree_of (held_preserves L) g))) g hg M f f hf hf
