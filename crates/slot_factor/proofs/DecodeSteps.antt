-- Steps of the loop over the slots.
use Rattle.std.proofs.Common.{◌≡◌, ℕ, ◌+◌, List, [], ◌∷◌, ◌++◌, map, refl, sym, ap, ap₂, subst, ◌∙◌}
use Rattle.std.specs.Prelude.{ℤ}
use Rattle.std.proofs.Math.Numerals.{add-one}
use Rattle.std.proofs.lemmas.List.{map-append}
use Rattle.algebra.specs.Whole.{below}
use Rattle.hyper_cube.specs.Torus.{Torus, slot_count, index}
use Rattle.ext_field.specs.Element.{Extension}
use Rattle.slot_array.specs.Arrays.{IsArray}
use Rattle.slot_laws.specs.Slots.{slot_of, slots}
use Rattle.slot_laws.specs.Checks.{IsPacking}
use Rattle.slot_laws.proofs.SlotMaps.{slots_see}

-- F 0, F 1, .. with one more
pub listed_more : (F : ℕ → List ℕ) (k : ℕ) (v : List ℕ) (xs ys : List (List ℕ)) → xs ≡ map F (below k) → ys ≡ xs ++ v ∷ [] → v ≡ F k → ys ≡ map F (below (k + 1))
listed_more F k v xs ys xs_is ys_is v_is = ys_is ∙ ap₂ (λ y z. y ++ z ∷ []) xs_is v_is ∙ sym (ap (λ z. map F (below z)) (add-one k) ∙ map-append F (below k) (k ∷ []))

map_index : (g : List ℕ → List ℕ) (h : ℕ → List ℕ) (ks : List ℕ) → map (λ j. g (h j)) ks ≡ map g (map h ks)
map_index g h [] = refl
map_index g h (k ∷ ks) = ap (λ y. g (h k) ∷ y) (map_index g h ks)

module _ (f : Extension) (c : Torus) where
  -- a list of each slot is the array
  pub slots_listed : (a : List ℤ) (k : ℕ) (xs : List (List ℕ)) → k ≡ slot_count c → xs ≡ map (λ j. slot_of f c a (index c.dimensions j)) (below k) → xs ≡ slots f c a
  unfolding slots
  slots_listed a k xs k_is xs_is = xs_is ∙ ap (λ z. map (λ j. slot_of f c a (index c.dimensions j)) (below z)) k_is ∙ map_index (slot_of f c a) (index c.dimensions) (below (slot_count c))

  pub array_listed : IsPacking f c → (a : List ℤ) (xs : List (List ℕ)) → xs ≡ slots f c a → IsArray f c xs
  array_listed P a xs xs_is = subst (IsArray f c) (sym xs_is) ((slots_see f c P).is_array a)
