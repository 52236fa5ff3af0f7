-- Remainders as elements.
use Rattle.std.proofs.Common.{◌≡◌, ℕ, ◌+◌, ◌<◌, IsTrue, List, [], ◌∷◌, ◌++◌, length, map, take, get_or, ap, ap₂, sym, ◌∙◌, subst, arith}
use Rattle.std.specs.Prelude.{nat_lt}
use Rattle.std.specs.List.{All}
use Rattle.std.proofs.lemmas.List.{map-id, map-append, take_more}
use Rattle.std.proofs.Math.Nat.{mod-eq_of_lt}
use Rattle.algebra.specs.Ring.{residues}
use Rattle.algebra.specs.Poly.{all_held, remainder}
use Rattle.algebra.proofs.HeldLists.{all_from}
use Rattle.mod_ring.specs.Laws.{word_laws}
use Rattle.ext_field.specs.Element.{Extension, IsMonicFactor, IsElement, is_element, eta}
use Rattle.ext_field.specs.Laws.{below_held, factor_held, factor_monic}
use Rattle.ext_field.proofs.Substitution.{row}

pub reduced_element : (e f : Extension) (r xs : List ℕ) → e ≡ f → r ≡ remainder (residues e.p) e.factor (map (λ c. c) xs) → IsMonicFactor e → All (λ c. c < f.p) xs → IsElement f r
reduced_element e f r xs e_is r_is F small = ap₂ (λ g y. is_element g y) (sym e_is) (r_is ∙ ap (remainder (residues e.p) e.factor) (map-id xs)) ∙ row (word_laws e.p F.p_low) e.factor (factor_held e F) (factor_monic e F) xs (all_from (λ c. nat_lt c e.p) xs (below_held e.p xs below))
  where
    below : All (λ c. c < e.p) xs
    below k d l = omega (arith, small k d l, ap (λ g. g.p) e_is)

pub root_is : (e f : Extension) (r xs : List ℕ) → e ≡ f → IsMonicFactor e → xs ≡ 0 ∷ 1 ∷ [] → r ≡ remainder (residues f.p) f.factor xs → r ≡ eta f
root_is e f r xs e_is F xs_is r_is = r_is ∙ ap (remainder (residues f.p) f.factor) (xs_is ∙ ap (λ n. 0 ∷ n ∷ []) (sym (mod-eq_of_lt one_below)))
  where
    one_below : 1 < f.p
    one_below = omega (arith, F.p_low, ap (λ g. g.p) e_is)

pub one_more : (h : ℕ → List ℕ) (f : List ℕ) (i c : ℕ) (r : List ℕ) (xs ys : List (List ℕ)) → i < length f → c ≡ get_or f i c → r ≡ h c → ys ≡ xs ++ r ∷ [] → xs ≡ map h (take i f) → ys ≡ map h (take (i + 1) f)
one_more h f i c r xs ys l c_is r_is ys_is xs_is = ys_is ∙ ap₂ (λ y z. y ++ z ∷ []) xs_is r_is ∙ sym (map-append h (take i f) (c ∷ [])) ∙ ap (map h) (sym (take_more f i c l ∙ ap (λ z. take i f ++ z ∷ []) (sym c_is)))

pub ring_held : (p : ℕ) (xs ys : List ℕ) → IsMonicFactor (record { p = p; factor = xs }) → ys ≡ xs → IsTrue (all_held (λ c. nat_lt c p) (map (λ c. c) ys))
ring_held p xs ys F e = ap (all_held (λ c. nat_lt c p)) (map-id ys ∙ e) ∙ factor_held (record { p = p; factor = xs }) F

pub factor_seen : (p : ℕ) (xs : List ℕ) → IsMonicFactor (record { p = p; factor = xs }) → IsMonicFactor (record { p = p; factor = map (λ c. c) xs })
factor_seen p xs F = subst (λ z. IsMonicFactor (record { p = p; factor = z })) (sym (map-id xs)) F
